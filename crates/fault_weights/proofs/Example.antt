-- Some weights, computed from the definition.
use Rattle.std.proofs.Common.{◌≡◌, [], ◌∷◌, map, refl}
use Rattle.fault_weights.specs.Rates.{rate_weight}

weights : map rate_weight (1 ∷ 953 ∷ 954 ∷ 1000 ∷ 1000000 ∷ []) ≡ 300 ∷ 210 ∷ 200 ∷ 200 ∷ 100 ∷ []
unfolding rate_weight
weights = refl
