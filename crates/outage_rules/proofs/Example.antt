-- A worked example: a feeder of five nodes and two dark reports.
use Rattle.std.proofs.Common.{◌≡◌, false, refl, [], ◌∷◌, get_or}
use Rattle.std.specs.Prelude.{◌==◌, nat_lt}
use Rattle.outage_rules.specs.Network.{Problem, is_live}
use Rattle.outage_rules.specs.Diagnosis.{cost}

abbrev feeder : Problem
feeder = record {
  net = record {
    nodes = 5;
    devices = 4;
    from = λ d. get_or (0 ∷ 1 ∷ 2 ∷ 2 ∷ []) d 0;
    to = λ d. get_or (1 ∷ 2 ∷ 3 ∷ 4 ∷ []) d 0;
    is_source = λ n. n == 0;
    is_closed = λ d. nat_lt d 4;
  };
  weight = λ d. get_or (120 ∷ 40 ∷ 50 ∷ 50 ∷ []) d 0;
  marked_open = λ d. false;
  marked_ok = λ d. false;
  dark_weight = λ n. get_or (0 ∷ 0 ∷ 0 ∷ 30 ∷ 30 ∷ []) n 0;
  live_weight = λ n. 0;
}

nothing_costs_60 : cost feeder (λ d. false) ≡ 60
nothing_costs_60 = refl

the_fuse_costs_40 : cost feeder (λ d. d == 1) ≡ 40
the_fuse_costs_40 = refl

both_transformers_cost_100 : cost feeder (λ d. (d == 2)) ≡ 80
both_transformers_cost_100 = refl

behind_the_fuse : is_live feeder.net (λ d. d == 1) 3 ≡ false
behind_the_fuse = refl
