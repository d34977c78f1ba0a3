-- What a command comes to, where some of its parts were taken already.
use Rattle.std.specs.Prelude.{ℕ, Bool, true, false, List, [], ◌∷◌, ◌++◌, Option, Some, None, if◌then◌else◌, option_map, filter_map}
use Rattle.std.specs.List.{list_all, list_any}
use Rattle.std.specs.Option.{option_to_list}
use Rattle.event_rules.specs.Stamps.{stamp_of}
use Rattle.command_words.specs.declared.words.Wish.{Wish}
use Rattle.command_words.specs.Forms.{Command, Part, Bounds, place_in, from_in, to_in, flag_in, is_stray, is_place, once_at_most, second_given, wish_by, two_places, replay_by}

-- what the parts that were taken gave
pub record Given : Type 0 where
  pub places : List (List ℕ)
  pub with_bounds : Bool
  pub from : Option (List ℕ)
  pub until : Option (List ℕ)

abbrev pub flags_given : Bool → List Part
flags_given false = []
flags_given true = Bounds ∷ []

-- the wish, with the parts that are left
unfoldable pub wish_after : Given → List Part → Option Wish
wish_after g parts =
    if list_any is_stray parts then None
    else wish_by (once_at_most (flags_given g.with_bounds ++ filter_map flag_in parts))
    (second_given (option_to_list g.from ++ filter_map from_in parts))
    (second_given (option_to_list g.until ++ filter_map to_in parts))

unfoldable pub replay_after : Given → List Part → Option Command
replay_after g parts = replay_by (two_places (g.places ++ filter_map place_in parts)) (wish_after g parts)

-- what places come to without options, with the parts that are left
unfoldable pub places_after : (List (List ℕ) → Option Command) → List (List ℕ) → List Part → Option Command
places_after by places parts = if list_all is_place parts then by (places ++ filter_map place_in parts) else None

-- the second that an option's text names, if the option is given
abbrev pub second_in : Option (List ℕ) → Option (Option ℕ)
second_in None = Some None
second_in (Some value) = option_map Some (stamp_of value)
