-- The meter that is found by its name is one of the network.
use Rattle.std.proofs.Common.{◌≡◌, ◌<◌, ℕ, Bool, List, length, Some, None, sym, subst}
use Rattle.std.specs.Prelude.{position, IfSome, nat_lt}
use Rattle.std.specs.List.{position_or_len}
use Rattle.std.proofs.lemmas.Bool.{cond_both, ltb-true}
use Rattle.grid_model.specs.Names.{name_eq}
use Rattle.run_tests.proofs.as_library.explain_gasp.Goals as goal

position-within : {X : Type 0} (p : X → Bool) (xs : List X) (k : ℕ) → Some k ≡ position p xs → k < length xs
position-within p xs k found =
    let place = position_or_len p xs in
    subst (λ o. IfSome o (λ i. i < length xs)) (sym found)
    (cond_both (nat_lt place (length xs)) (Some place) None (λ o. IfSome o (λ i. i < length xs)) (λ e. ltb-true place (length xs) e) (λ e. tt))

pub explain_first_gasp-requires-clause-meter : goal.explain_first_gasp-requires-clause-meter
explain_first_gasp-requires-clause-meter g c = position-within (λ m. name_eq c.args.name m.name) _ c.in-Some.meter.0 c.in-Some.ensures
