-- The command of words that are a trial is over 1 to 100 feeders.
use Rattle.std.proofs.Common.{◌≡◌, refl, subst, ℕ, Bool, true, false, List, [], ◌∷◌, Option, Some, None}
use Rattle.std.specs.Prelude.{if◌then◌else◌, ◌&&◌, nat_le, option_map, codes, filter_map}
use Rattle.std.specs.List.{list_all}
use Rattle.std.specs.Str.{bytes_eq}
use Rattle.std.proofs.lemmas.Bool.{leb-true}
use Rattle.event_rules.specs.Decimals.{is_decimal, value_of}
use Rattle.command_words.specs.declared.words.Wish.{Wish}
use Rattle.command_words.specs.Forms.{Command, Trial, HasFeeders, Part, Places, check_by, check_of, command_by, command_of, follow_of, is_place, one_by, parts_of, place_in, replay_by, replay_of, trial_of, trial_over, follow_on, two_places, wish_of}

abbrev Fits : Option Command → Type 0
Fits None = Unit {0}
Fits (Some command) = HasFeeders command

either : (b : Bool) (x y : Option Command) → Fits x → Fits y → Fits (if b then x else y)
either true x y h k = h
either false x y h k = k

replay_fits : (places : Option Places) (wish : Option Wish) → Fits (replay_by places wish)
replay_fits None wish = tt
replay_fits (Some places) None = tt
replay_fits (Some places) (Some wish) = tt

check_fits : (places : List (List ℕ)) → Fits (check_by places)
check_fits [] = tt
check_fits (net ∷ []) = tt
check_fits (net ∷ events ∷ []) = tt
check_fits (net ∷ events ∷ report ∷ []) = tt
check_fits (net ∷ events ∷ report ∷ more ∷ rest) = tt

within : (d l m : Bool) (n : ℕ) → nat_le 1 n ≡ l → nat_le n 100 ≡ m → Fits (option_map Trial (if d && (l && m) then Some n else None))
within true true true n p q = (leb-true 1 n p, leb-true n 100 q)
within true true false n p q = tt
within true false m n p q = tt
within false l m n p q = tt

trial_fits : (places : List (List ℕ)) → Fits (one_by trial_over places)
trial_fits [] = tt
trial_fits (word ∷ []) = within (is_decimal word) (nat_le 1 (value_of word)) (nat_le (value_of word) 100) (value_of word) refl refl
trial_fits (word ∷ more ∷ rest) = tt

follow_fits : (places : List (List ℕ)) → Fits (one_by follow_on places)
follow_fits [] = tt
follow_fits (word ∷ []) = tt
follow_fits (word ∷ more ∷ rest) = tt

by_word : (word : List ℕ) (parts : List Part) → Fits (command_by word parts)
by_word word parts =
    let places = filter_map place_in parts in
    let check = either (list_all is_place parts) (check_by places) None (check_fits places) tt in
    let trial = either (list_all is_place parts) (one_by trial_over places) None (trial_fits places) tt in
    let follow = either (list_all is_place parts) (one_by follow_on places) None (follow_fits places) tt in
    either (bytes_eq word (codes "replay")) (replay_of parts) _ (replay_fits (two_places places) (wish_of parts))
    (either (bytes_eq word (codes "check")) (check_of parts) _ check
    (either (bytes_eq word (codes "trial")) (trial_of parts) _ trial (either (bytes_eq word (codes "follow")) (follow_of parts) None follow tt)))

fits : (words : List (List ℕ)) → Fits (command_of words)
unfolding command_of
fits [] = tt
fits (program ∷ []) = tt
fits (program ∷ word ∷ rest) = by_word word (parts_of rest)

pub has_feeders : (words : List (List ℕ)) (command : Command) → command_of words ≡ Some command → HasFeeders command
has_feeders words command e = subst Fits e (fits words)
