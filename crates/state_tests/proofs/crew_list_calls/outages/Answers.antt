use Rattle.std.proofs.Common.{◌≡◌, ◌<◌, ℕ, true, false, List, [], ◌∷◌, Some, None, map, get_or, refl, sym, ◌∙◌, arith}
use Rattle.std.specs.Prelude.{◌≢◌, nat_eq, IfSome}
use Rattle.std.specs.List.{All, IsDistinct}
use Rattle.std.proofs.lemmas.Bool.{eqb-false}
use Rattle.std.proofs.lemmas.List.{get_or-map}
use Rattle.std.proofs.lemmas.List.Elements.{All-from_recursion}
use Rattle.std.proofs.lemmas.Map.Keys.{apart_from_distinct}
use Rattle.grid_model.specs.declared.history.Outage.{Outage}
use Rattle.history_rules.specs.Crew.{above_in, top_of, top_within, is_device_of, CanBeOrdered}
use Rattle.state_tests.proofs.crew_list_calls.outages.Goals as goal

abbrev some : List Outage
some =
    record { device = record { 0 = 1 }; above = None; meters = 1; customers = 10; since = Some (record { 0 = 103 }); nested = false }
    ∷ record { device = record { 0 = 2 }; above = Some (record { 0 = 1 }); meters = 2; customers = 30; since = Some (record { 0 = 101 }); nested = false }
    ∷ record { device = record { 0 = 5 }; above = None; meters = 3; customers = 40; since = None; nested = false }
    ∷ record { device = record { 0 = 7 }; above = None; meters = 4; customers = 40; since = Some (record { 0 = 50 }); nested = false } ∷ []

distinct : IsDistinct nat_eq (1 ∷ 2 ∷ 5 ∷ 7 ∷ [])
unfolding IsDistinct
distinct = ((refl, (refl, (refl, tt))), ((refl, (refl, tt)), ((refl, tt), (tt, tt))))

apart : (i j : ℕ) (x : Outage) → i < j → j < 4 → (get_or some i x).device.0 ≢ (get_or some j x).device.0
apart i j x less lt e =
    let f = λ (o : Outage). o.device.0 in
    eqb-false (get_or (map f some) i 0) (get_or (map f some) j 0) (apart_from_distinct nat_eq (map f some) i j 0 distinct less lt)
    (get_or-map f some i x 0 (omega arith) ∙ e ∙ sym (get_or-map f some j x 0 lt))

above : All (λ o. IfSome o.above (λ d. is_device_of some d.0 ≡ true)) some
above = All-from_recursion (λ o. IfSome o.above (λ d. is_device_of some d.0 ≡ true)) some (tt, (refl, (tt, (tt, tt))))

ends : All (λ o. above_in some (top_of some o) ≡ None) some
unfolding top_within
ends = All-from_recursion (λ o. above_in some (top_of some o) ≡ None) some (refl, (refl, (refl, (refl, tt))))

can : CanBeOrdered some
can = record { apart = apart; above = above; ends = ends; customers = omega arith }

pub returns : goal.returns
returns c = can
