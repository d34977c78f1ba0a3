-- What a contract sees of a judgement, of which the flags alone tell anything.
use Rattle.std.specs.Prelude.{◌≡◌, ◌<◌, ◌+◌, ◌^◌, length}
use Rattle.diagnosis.specs.declared.judged.Judged.TheInside.{Inside}
use Rattle.diagnosis.specs.Judgement.{Judgement}

abbrev pub judgement_of : Inside → Judgement
judgement_of j = record {
  opened = j.flags.opened.flags;
  dark = j.flags.dark.flags;
  opened_begun = j.flags.opened.begun;
  dark_begun = j.flags.dark.begun;
  flipped = j.flags.dark.named;
  changed = j.flags.opened.named;
}

-- there is room for a walk of all nodes, and for a list of all nodes with one place more; and devices have numbers of 32 bits
pub record IsWholeInside (j : Inside) : Type 0 where
  pub walk : length j.walk.items ≡ length j.flags.dark.flags
  pub turned : length j.turned.items ≡ length j.flags.dark.flags + 1
  pub few : length j.flags.opened.flags < 2 ^ 32
