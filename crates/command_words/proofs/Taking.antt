-- How a command takes one part after another.
use Rattle.std.proofs.Common.{◌≡◌, ◌∙◌, ap, sym, refl, arith, ℕ, Bool, true, false, List, [], ◌∷◌, ◌++◌, append_assoc, length, map, Option, Some, None, true≢false}
use Rattle.std.specs.Prelude.{filter_map, if◌then◌else◌, option_map, codes}
use Rattle.std.specs.List.{list_any, list_all}
use Rattle.std.specs.Option.{option_to_list}
use Rattle.std.specs.Str.{bytes_eq}
use Rattle.event_rules.specs.Stamps.{stamp_of}
use Rattle.command_words.specs.declared.words.Wish.{Wish}
use Rattle.command_words.specs.Forms.{Command, Places, Part, Place, Bounds, From, To, Stray, parts_of, part_of, part_with, takes_next, place_in, from_in, to_in, flag_in, is_stray, is_place, once_at_most, second_given, wish_by, two_places, replay_by, check_by, one_by}
use Rattle.command_words.specs.Given.{Given, flags_given, wish_after, replay_after, places_after, second_in}

abbrev pub given : List (List ℕ) → Bool → Option (List ℕ) → Option (List ℕ) → Given
given places with_bounds from until = record { places = places; with_bounds = with_bounds; from = from; until = until }

no_command : (x : Option Places) → replay_by x None ≡ None
no_command None = refl
no_command (Some places) = refl

no_wish : (g : Given) (parts : List Part) → wish_after g parts ≡ None → replay_after g parts ≡ None
unfolding replay_after
no_wish g parts e = ap (replay_by (two_places (g.places ++ filter_map place_in parts))) e ∙ no_command (two_places (g.places ++ filter_map place_in parts))

none_either_way : (b : Bool) (x : Option Wish) → x ≡ None → (if b then None else x) ≡ None
none_either_way true x e = refl
none_either_way false x e = e

no_flag : (y z : Option (Option ℕ)) → wish_by None y z ≡ None
no_flag y z = refl

no_from : (x : Option Bool) (z : Option (Option ℕ)) → wish_by x None z ≡ None
no_from None z = refl
no_from (Some b) z = refl

no_until : (x : Option Bool) (y : Option (Option ℕ)) → wish_by x y None ≡ None
no_until None y = refl
no_until (Some b) None = refl
no_until (Some b) (Some from) = refl

pub stray_ends : (g : Given) (rest : List Part) → replay_after g (Stray ∷ rest) ≡ None
unfolding wish_after
stray_ends g rest = no_wish g (Stray ∷ rest) refl

pub place_next : (g : Given) (w : List ℕ) (rest : List Part) → replay_after g (Place w ∷ rest) ≡ replay_after (record g { places = g.places ++ w ∷ [] }) rest
unfolding replay_after wish_after
place_next g w rest = ap (λ (ps : List (List ℕ)). replay_by (two_places ps) (wish_after g rest)) (sym (append_assoc g.places (w ∷ []) (filter_map place_in rest)))

pub bounds_next : (ps : List (List ℕ)) (b : Bool) (f u : Option (List ℕ)) (rest : List Part) → b ≡ false
    → replay_after (given ps b f u) (Bounds ∷ rest) ≡ replay_after (given ps true f u) rest
unfolding replay_after wish_after
bounds_next ps false f u rest e = refl
bounds_next ps true f u rest e = absurd (true≢false e)

pub bounds_again : (ps : List (List ℕ)) (b : Bool) (f u : Option (List ℕ)) (rest : List Part) → b ≡ true
    → replay_after (given ps b f u) (Bounds ∷ rest) ≡ None
unfolding wish_after
bounds_again ps true f u rest e = no_wish (given ps true f u) (Bounds ∷ rest) (none_either_way (list_any is_stray rest) _ (no_flag (second_given (option_to_list f ++ filter_map from_in rest)) (second_given (option_to_list u ++ filter_map to_in rest))))
bounds_again ps false f u rest e = absurd (true≢false (sym e))

pub from_next : (ps : List (List ℕ)) (b : Bool) (f u : Option (List ℕ)) (v : List ℕ) (rest : List Part) → f ≡ None
    → replay_after (given ps b f u) (From v ∷ rest) ≡ replay_after (given ps b (Some v) u) rest
unfolding replay_after wish_after
from_next ps b None u v rest e = refl
from_next ps b (Some x) u v rest e = cc

pub from_again : (ps : List (List ℕ)) (b : Bool) (x : List ℕ) (u : Option (List ℕ)) (v : List ℕ) (rest : List Part)
    → replay_after (given ps b (Some x) u) (From v ∷ rest) ≡ None
unfolding wish_after
from_again ps b x u v rest = no_wish (given ps b (Some x) u) (From v ∷ rest)
    (none_either_way (list_any is_stray rest) _ (no_from (once_at_most (flags_given b ++ filter_map flag_in rest)) (second_given (option_to_list u ++ filter_map to_in rest))))

pub to_next : (ps : List (List ℕ)) (b : Bool) (f u : Option (List ℕ)) (v : List ℕ) (rest : List Part) → u ≡ None
    → replay_after (given ps b f u) (To v ∷ rest) ≡ replay_after (given ps b f (Some v)) rest
unfolding replay_after wish_after
to_next ps b f None v rest e = refl
to_next ps b f (Some x) v rest e = cc

pub to_again : (ps : List (List ℕ)) (b : Bool) (f : Option (List ℕ)) (x : List ℕ) (v : List ℕ) (rest : List Part)
    → replay_after (given ps b f (Some x)) (To v ∷ rest) ≡ None
unfolding wish_after
to_again ps b f x v rest = no_wish (given ps b f (Some x)) (To v ∷ rest)
    (none_either_way (list_any is_stray rest) _ (no_until (once_at_most (flags_given b ++ filter_map flag_in rest)) (second_given (option_to_list f ++ filter_map from_in rest))))

flag_end : (b : Bool) → once_at_most (flags_given b ++ []) ≡ Some b
flag_end true = refl
flag_end false = refl

second_end : (f : Option (List ℕ)) → second_given (option_to_list f ++ []) ≡ second_in f
second_end None = refl
second_end (Some v) = refl

-- no part is left
pub wish_at_end : (ps : List (List ℕ)) (b : Bool) (f u : Option (List ℕ)) → wish_after (given ps b f u) [] ≡ wish_by (Some b) (second_in f) (second_in u)
unfolding wish_after
wish_at_end ps b f u =
    ap (λ (x : Option Bool). wish_by x (second_given (option_to_list f ++ [])) (second_given (option_to_list u ++ []))) (flag_end b)
    ∙ ap (λ (y : Option (Option ℕ)). wish_by (Some b) y (second_given (option_to_list u ++ []))) (second_end f)
    ∙ ap (λ (z : Option (Option ℕ)). wish_by (Some b) (second_in f) z) (second_end u)

pub replay_at_end : (net events : List ℕ) (b : Bool) (f u : Option (List ℕ))
    → replay_after (given (net ∷ events ∷ []) b f u) [] ≡ replay_by (Some (record { net = net; events = events })) (wish_by (Some b) (second_in f) (second_in u))
unfolding replay_after
replay_at_end net events b f u = ap (replay_by (Some (record { net = net; events = events }))) (wish_at_end (net ∷ events ∷ []) b f u)

-- ---- places without options

pub place_taken : (by : List (List ℕ) → Option Command) (ps : List (List ℕ)) (w : List ℕ) (rest : List Part) → places_after by ps (Place w ∷ rest) ≡ places_after by (ps ++ w ∷ []) rest
unfolding places_after
place_taken by ps w rest = ap (λ (l : List (List ℕ)). if list_all is_place rest then by l else None) (sym (append_assoc ps (w ∷ []) (filter_map place_in rest)))

pub option_refused : (by : List (List ℕ) → Option Command) (ps : List (List ℕ)) (part : Part) (rest : List Part) → is_place part ≡ false → places_after by ps (part ∷ rest) ≡ None
unfolding places_after
option_refused by ps (Place w) rest e = absurd (true≢false e)
option_refused by ps Bounds rest e = refl
option_refused by ps (From v) rest e = refl
option_refused by ps (To v) rest e = refl
option_refused by ps Stray rest e = refl

none_anyway : (b : Bool) (x : Option Command) → x ≡ None → (if b then x else None) ≡ None
none_anyway true x e = e
none_anyway false x e = refl

-- ---- a check

not_three : (ps : List (List ℕ)) (w : List ℕ) (more : List (List ℕ)) → length ps ≡ 3 → check_by (ps ++ w ∷ more) ≡ None
not_three [] w more e = absurd (omega arith)
not_three (a ∷ []) w more e = absurd (omega arith)
not_three (a ∷ b ∷ []) w more e = absurd (omega arith)
not_three (a ∷ b ∷ c ∷ []) w more e = refl
not_three (a ∷ b ∷ c ∷ d ∷ ps) w more e = refl

pub check_past : (ps : List (List ℕ)) (w : List ℕ) (rest : List Part) → length ps ≡ 3 → places_after check_by ps (Place w ∷ rest) ≡ None
unfolding places_after
check_past ps w rest e = none_anyway (list_all is_place rest) _ (not_three ps w (filter_map place_in rest) e)

-- ---- a command of one place

pub one_past : (take : List ℕ → Option Command) (a w : List ℕ) (rest : List Part) → places_after (one_by take) (a ∷ []) (Place w ∷ rest) ≡ None
unfolding places_after
one_past take a w rest = none_anyway (list_all is_place rest) _ refl

pub none_taken : (take : List ℕ → Option Command) → places_after (one_by take) [] [] ≡ None
unfolding places_after
none_taken take = refl

-- ---- the parts of words

pub parts_dashes : (more : List (List ℕ)) → parts_of (codes "--" ∷ more) ≡ map Place more
unfolding parts_of
parts_dashes [] = refl
parts_dashes (w ∷ more) = refl

pub parts_pair : (w v : List ℕ) (more : List (List ℕ)) → bytes_eq w (codes "--") ≡ false → takes_next w ≡ true
    → parts_of (w ∷ v ∷ more) ≡ part_with w v ∷ parts_of more
unfolding parts_of
parts_pair w v more d t = rw (d, t) refl

pub parts_last : (w : List ℕ) → bytes_eq w (codes "--") ≡ false → parts_of (w ∷ []) ≡ part_of w ∷ parts_of []
unfolding parts_of
parts_last w d = rw d refl

pub parts_lone : (w : List ℕ) (more : List (List ℕ)) → bytes_eq w (codes "--") ≡ false → takes_next w ≡ false
    → parts_of (w ∷ more) ≡ part_of w ∷ parts_of more
unfolding parts_of
parts_lone w [] d t = rw d refl
parts_lone w (v ∷ more) d t = rw (d, t) refl

pub parts_none : parts_of [] ≡ []
unfolding parts_of
parts_none = refl

pub two_taken : (a e : List ℕ) (b : Bool) (f u : Option (List ℕ)) (w : List ℕ) (rest : List Part) → replay_after (given (a ∷ e ∷ []) b f u) (Place w ∷ rest) ≡ None
unfolding replay_after
two_taken a e b f u w rest = refl

pub no_place : (b : Bool) (f u : Option (List ℕ)) → replay_after (given [] b f u) [] ≡ None
unfolding replay_after
no_place b f u = refl

pub one_place : (a : List ℕ) (b : Bool) (f u : Option (List ℕ)) → replay_after (given (a ∷ []) b f u) [] ≡ None
unfolding replay_after
one_place a b f u = refl

no_second : (v : List ℕ) (more : List (List ℕ)) → stamp_of v ≡ None → second_given (v ∷ more) ≡ None
no_second v [] e = ap (λ (x : Option ℕ). option_map (λ (n : ℕ). Some n) x) e
no_second v (w ∷ more) e = refl

pub from_no_stamp : (ps : List (List ℕ)) (b : Bool) (f u : Option (List ℕ)) (v : List ℕ) (rest : List Part) → stamp_of v ≡ None
    → replay_after (given ps b f u) (From v ∷ rest) ≡ None
unfolding wish_after
from_no_stamp ps b (Some x) u v rest e = from_again ps b x u v rest
from_no_stamp ps b None u v rest e = no_wish (given ps b None u) (From v ∷ rest)
    (none_either_way (list_any is_stray rest) _
    (ap (λ (y : Option (Option ℕ)). wish_by (once_at_most (flags_given b ++ filter_map flag_in rest)) y (second_given (option_to_list u ++ filter_map to_in rest))) (no_second v (filter_map from_in rest) e)
    ∙ no_from (once_at_most (flags_given b ++ filter_map flag_in rest)) (second_given (option_to_list u ++ filter_map to_in rest))))

pub to_no_stamp : (ps : List (List ℕ)) (b : Bool) (f u : Option (List ℕ)) (v : List ℕ) (rest : List Part) → stamp_of v ≡ None
    → replay_after (given ps b f u) (To v ∷ rest) ≡ None
unfolding wish_after
to_no_stamp ps b f (Some x) v rest e = to_again ps b f x v rest
to_no_stamp ps b f None v rest e = no_wish (given ps b f None) (To v ∷ rest)
    (none_either_way (list_any is_stray rest) _
    (ap (λ (z : Option (Option ℕ)). wish_by (once_at_most (flags_given b ++ filter_map flag_in rest)) (second_given (option_to_list f ++ filter_map from_in rest)) z) (no_second v (filter_map to_in rest) e)
    ∙ no_until (once_at_most (flags_given b ++ filter_map flag_in rest)) (second_given (option_to_list f ++ filter_map from_in rest))))
