-- The entry of an event by its answer.
use Rattle.std.proofs.Common.{◌≡◌, ℕ, sym, subst, List, Result, Ok, Err}
use Rattle.std.specs.Prelude.{OnOk}
use Rattle.grid_model.specs.declared.history.Refusal.{Refusal}
use Rattle.outage_engine.specs.declared.Applied.{Applied}
use Rattle.outage_engine.specs.Engined.{Engined}
use Rattle.event_run.specs.Entering.{PutsAnswer}
use Rattle.event_run.proofs.taken.put_answer.Goals as goal

pub put_changes-requires : goal.put_changes-requires
put_changes-requires c = record { last = c.requires.last c.in-Ok.applied c.in-Ok.is }

puts : {F : Type 0} (line : ℕ) (e : Engined) (before now : List ℕ) (answer same : Result Applied Refusal) (result : Result (Unit {0}) F) → answer ≡ same → OnOk result (PutsAnswer line e before now same) → OnOk result (PutsAnswer line e before now answer)
puts line e before now answer same result is put = subst (λ a. OnOk result (PutsAnswer line e before now a)) (sym is) put

pub returns-in-Ok : goal.returns-in-Ok
returns-in-Ok c =
    puts c.args.line c.args.engine.now c.args.entries.now.bytes.items c.put_changes.new.out.bytes.items c.args.answer (Ok c.in-Ok.applied) c.put_changes.result c.in-Ok.is c.put_changes.ensures.whole

pub returns-in-Err : goal.returns-in-Err
returns-in-Err c =
    puts c.args.line c.args.engine.now c.args.entries.now.bytes.items c.put_refused.new.out.bytes.items c.args.answer (Err c.in-Err.rule) c.put_refused.result c.in-Err.is c.put_refused.ensures.whole
