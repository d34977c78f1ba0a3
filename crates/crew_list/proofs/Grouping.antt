-- Groups of some outages, and of one more.
use Rattle.std.proofs.Common.{◌≡◌, ℕ, ◌+◌, ◌<◌, ◌≤◌, Bool, true, false, cond, not, List, [], ◌∷◌, ◌++◌, length, take, get_or, set, replicate, refl, sym, ap, ◌∙◌, inl, inr, arith}
use Rattle.std.specs.Prelude.{◌⊎◌, ◌==◌, Option, None, filter, fold, option_map, sum_by}
use Rattle.std.proofs.lemmas.Bool.{cases_eq, eq-eqb, ne_eqb}
use Rattle.std.proofs.lemmas.List.{append-nil, get_or-replicate, get_or-set_same, get_or-set_other, length-set, length-replicate}
use Rattle.std.proofs.lemmas.List.Elements.{filter_more}
use Rattle.std.proofs.lemmas.List.Filters.{sum_by-filter_both}
use Rattle.std.proofs.lemmas.List.Sums.{fold-append, sum_by-take-le}
use Rattle.grid_model.specs.declared.history.Outage.{Outage}
use Rattle.history_rules.specs.Evidence.{earliest}
use Rattle.history_rules.specs.Crew.{top_of, most_customers, CanBeOrdered}
use Rattle.crew_list.specs.Listed.{no_outage, outage_at}
use Rattle.crew_list.specs.Chains.{device_at, reach_at, IsReached}
use Rattle.crew_list.specs.Groups.{no_group, group_with, group_from, IsGrouped}
use Rattle.crew_list.specs.declared.chains.Reach.{Reach}
use Rattle.crew_list.specs.declared.groups.Group.{Group}
use Rattle.crew_list.proofs.Steps.{same_place}

abbrev group_at : List Group → ℕ → Group
group_at groups p = get_or groups p no_group

abbrev with_top : List Outage → ℕ → Outage → Bool
with_top all p q = top_of all q == device_at all p

-- the outages among some whose topmost device is that of a place
abbrev under : List Outage → List Outage → ℕ → List Outage
under all some p = filter (with_top all p) some

abbrev group_of_parts : ℕ → Option ℕ → Group
group_of_parts c s = record { customers = c; since = s }

one_more : (os : List Outage) (o : Outage) → group_from (os ++ o ∷ []) ≡ group_with (group_from os) o
one_more os o =
    ap (λ c. group_of_parts c (fold (λ t q. earliest t (option_map (λ s. s.0) q.since)) None (os ++ o ∷ []))) (fold-append (λ a q. a + q.customers) 0 os (o ∷ []))
    ∙ ap (group_of_parts (fold (λ a q. a + q.customers) 0 os + o.customers)) (fold-append (λ t q. earliest t (option_map (λ s. s.0) q.since)) None os (o ∷ []))

under_more : (all some : List Outage) (i p : ℕ) (t : Bool) → i < length some → with_top all p (get_or some i no_outage) ≡ t
    → under all (take (i + 1) some) p ≡ under all (take i some) p ++ cond t (get_or some i no_outage ∷ []) []
under_more all some i p t lt is =
    filter_more (with_top all p) some i no_outage lt ∙ ap (λ b. under all (take i some) p ++ cond b (get_or some i no_outage ∷ []) []) is

-- before all outages
pub none_grouped : (all : List Outage) (groups : List Group) → groups ≡ replicate (length all) no_group → IsGrouped all [] groups
none_grouped all groups is = record {
  each = ap length is ∙ length-replicate (length all) no_group;
  group = λ p lt. ap (λ gs. group_at gs p) is ∙ get_or-replicate (length all) p no_group no_group lt;
}

-- the topmost device of an outage
top_at : (all : List Outage) (reaches : List Reach) (i : ℕ) → IsReached all (length all) reaches → i < length all
    → top_of all (outage_at all i) ≡ device_at all (reach_at reaches i).place
top_at all reaches i r lt = sym (r.place i lt)

-- the customers of a group, with those of one more outage, are no more than all
pub group_fits : (all : List Outage) → CanBeOrdered all → (reaches : List Reach) (groups : List Group) (i : ℕ) → IsReached all (length all) reaches
    → IsGrouped all (take i all) groups → i < length all
    → (group_at groups (reach_at reaches i).place).customers + (outage_at all i).customers ≤ most_customers
group_fits all can reaches groups i r grouped lt =
    let p = (reach_at reaches i).place in
    let f = λ (q : Outage). q.customers in
    let test = with_top all p in
    let here = ap (λ g. g.customers) (grouped.group p (r.within i lt)) in
    let more : sum_by f (under all (take (i + 1) all) p) ≡ sum_by f (under all (take i all) p) + (outage_at all i).customers =
    ap (sum_by f) (under_more all all i p true lt (eq-eqb (top_of all (outage_at all i)) (device_at all p) (top_at all reaches i r lt)))
    ∙ fold-append (λ a q. a + f q) 0 (under all (take i all) p) (outage_at all i ∷ []) in
    let part = sum_by-filter_both test (λ q. not (test q)) (λ q. refl) f (take (i + 1) all) in
    let whole = sum_by-take-le f all (i + 1) in
    let all_few = can.customers in
    omega arith

-- one more outage in its group
pub grouped_more : (all : List Outage) → CanBeOrdered all → (reaches : List Reach) (groups next : List Group) (i : ℕ) → IsReached all (length all) reaches
    → IsGrouped all (take i all) groups → i < length all
    → next ≡ set groups (reach_at reaches i).place (group_with (group_at groups (reach_at reaches i).place) (outage_at all i)) → IsGrouped all (take (i + 1) all) next
grouped_more all can reaches groups next i r grouped lt is = record { each = each; group = λ p l. pick p l (cases_eq p top) }
  where
    top : ℕ
    top = (reach_at reaches i).place

    inside : top < length groups
    inside = let e = grouped.each in let w = r.within i lt in omega arith

    each : length next ≡ length all
    each = ap length is ∙ length-set groups top (group_with (group_at groups top) (outage_at all i)) ∙ grouped.each

    pick : (p : ℕ) → p < length all → (p ≡ top) ⊎ (p ≡ top → ⊥) → group_at next p ≡ group_from (under all (take (i + 1) all) p)
    pick p l (inl same) =
        ap (group_at next) same ∙ ap (λ gs. group_at gs top) is ∙ get_or-set_same groups top (group_with (group_at groups top) (outage_at all i)) no_group inside
        ∙ ap (λ g. group_with g (outage_at all i)) (grouped.group top (r.within i lt)) ∙ sym (one_more (under all (take i all) top) (outage_at all i))
        ∙ sym (ap group_from (under_more all all i top true lt (eq-eqb (top_of all (outage_at all i)) (device_at all top) (top_at all reaches i r lt))))
        ∙ ap (λ k. group_from (under all (take (i + 1) all) k)) (sym same)
    pick p l (inr ne) =
        let differ : with_top all p (outage_at all i) ≡ false = ne_eqb (top_of all (outage_at all i)) (device_at all p) (λ e. ne (same_place all can p top l (r.within i lt) (sym e ∙ top_at all reaches i r lt))) in
        ap (λ gs. group_at gs p) is ∙ get_or-set_other groups top p (group_with (group_at groups top) (outage_at all i)) no_group ne ∙ grouped.group p l
        ∙ sym (ap group_from (under_more all all i p false lt differ ∙ append-nil (under all (take i all) p)))
