use Rattle.std.proofs.Common.{◌∙◌, ap}
use Rattle.std.specs.Prelude.{unwrap_or}
use Rattle.event_rules.specs.Stamps.{stamp_of}
use Rattle.feed_merge.specs.Merging.{second_of}
use Rattle.feed_merge.proofs.FirstFields.{second_read}
use Rattle.feed_merge.proofs.heads.second_of.Goals as goal

pub returns-clause-second : goal.returns-clause-second
unfolding second_of
returns-clause-second c =
    ap (λ s. s.0) c.unwrap_or.ensures
    ∙ second_read c.read_stamp.result (stamp_of c.first_field.result.now) c.read_stamp.ensures.second
    ∙ ap (λ f. unwrap_or (stamp_of f) 0) c.first_field.ensures
