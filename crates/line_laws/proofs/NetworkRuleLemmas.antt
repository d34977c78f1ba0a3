-- A line of a network text is refused by the first rule that it breaks.
use Rattle.std.proofs.Common.{◌≡◌, ℕ, ◌+◌, Bool, true, false, List, [], ◌∷◌, length, refl, sym, ap, ◌∙◌, inl, inr, ⊎_elim, arith}
use Rattle.std.specs.Prelude.{◌⊎◌, ◌==◌, ◌&&◌, ◌||◌, not, nat_lt, nat_le, Option, Some, None, is_none, codes, if◌then◌else◌}
use Rattle.std.specs.Str.{bytes_eq}
use Rattle.std.proofs.lemmas.Bool.{false≢true, cases_Bool, cases_lt, lt-ltb, le-ltb, lt-leb, le-leb, ne_eqb}
use Rattle.std.proofs.lemmas.Option.{none-some}
use Rattle.grid_model.specs.Name.{is_name}
use Rattle.grid_model.specs.Names.{name_eq, is_among}
use Rattle.grid_model.specs.declared.parts.Kind.{Kind}
use Rattle.grid_model.specs.declared.parts.Setting.{Setting}
use Rattle.event_rules.specs.Lines.{is_skipped, most_line}
use Rattle.event_rules.specs.Fields.{between_commas, has_no_fields}
use Rattle.event_rules.specs.Decimals.{decimal_within}
use Rattle.grid_reader.specs.declared.fault.GridRule.{GridRule}
use Rattle.grid_reader.specs.declared.fault.GridRule.TheVariants.{BadRow, BadName, UnknownKind, UnknownSetting, BadNumber, SameEnds, DuplicateSource, DuplicateDevice, DuplicateMeter, DuplicateSetting, TooManyNodes, TooManyDevices, TooManyMeters}
use Rattle.grid_reader.specs.Words.{kind_named, setting_named, state_named, weight_of, value_of, most_weight}
use Rattle.grid_reader.specs.Shapes.{Shape, source_shape, setting_shape, meter_shape, shape_in_state, device_shape, shape_of_fields, shape_of}
use Rattle.grid_reader.specs.Rows.{RowReading, IsRow, Breaks, source_row, device_between, device_of_kind, device_row, meter_serving, setting_to, setting_row, row_of_shape, row_of}
use Rattle.grid_reader.specs.Network.{source_names, device_names, meter_names, has_setting, broken_after}
use Rattle.grid_reader.specs.Text.{Reading, Rows, Stopped, with_row, with_line}
use Rattle.line_laws.specs.FirstRule.{Tried, Where, first_broken, field, is_one_of}
use Rattle.line_laws.proofs.EventWords.{is_word, falls}
use Rattle.line_laws.specs.NetworkRules.{is_source, is_device, is_meter, is_setting, has_bad_shape, has_bad_name, has_no_number, has_bad_number, is_set, nodes_with, names_with, Earlier, earlier_in, rule_in, network_rules, FirstRuleStops}

-- the rule that stops a row behind others
abbrev rule_after : Reading → RowReading → Option GridRule
rule_after (Rows earlier lines number) (Breaks rule) = Some rule
rule_after (Rows earlier lines number) (IsRow row) = broken_after earlier row
rule_after (Stopped line rule) r = None

-- the rules on the fields
abbrev rules_of : Earlier → List (List ℕ) → List (Tried GridRule)
rules_of earlier fields =
    Where BadName (has_bad_name fields)
    ∷ Where UnknownKind (is_device fields && is_none (kind_named (field fields 2)))
    ∷ Where UnknownSetting (is_setting fields && is_none (setting_named (field fields 1)))
    ∷ Where BadNumber (has_bad_number fields)
    ∷ Where SameEnds (is_device fields && name_eq (field fields 3) (field fields 4))
    ∷ Where DuplicateSource (is_source fields && is_among earlier.sources (field fields 1))
    ∷ Where DuplicateDevice (is_device fields && is_among earlier.devices (field fields 1))
    ∷ Where DuplicateMeter (is_meter fields && is_among earlier.meters (field fields 1))
    ∷ Where DuplicateSetting (is_setting fields && is_set earlier (setting_named (field fields 1)))
    ∷ Where TooManyNodes (nat_lt 200000 (length (nodes_with earlier fields)))
    ∷ Where TooManyDevices (nat_lt 400000 (length (names_with earlier.devices (is_device fields) (field fields 1))))
    ∷ Where TooManyMeters (nat_lt 500000 (length (names_with earlier.meters (is_meter fields) (field fields 1))))
    ∷ []

abbrev IsFirst : Reading → List (List ℕ) → Type 0
IsFirst before fields =
    rule_after before (row_of_shape (shape_of_fields fields)) ≡ first_broken (Where BadRow (has_bad_shape fields) ∷ rules_of (earlier_in before) fields)

found : {A : Type 0} (o : Option A) → (o ≡ None) ⊎ ((x : A) × (o ≡ Some x))
found None = inl refl
found (Some x) = inr (x, refl)

-- a line of the wrong length, and one of no sort
wrong_length : (same bad : Bool) (others : Option GridRule) → same ≡ false → Some BadRow ≡ (if not same || bad then Some BadRow else others)
wrong_length true bad others e = absurd (false≢true (sym e))
wrong_length false bad others e = refl

no_sort : (known bad : Bool) (others : Option GridRule) → known ≡ false → Some BadRow ≡ (if not known || bad then Some BadRow else others)
no_sort true bad others e = absurd (false≢true (sym e))
no_sort false bad others e = refl

-- the rules on how much is mentioned up to a line
abbrev excess_of : Earlier → List (List ℕ) → Option GridRule
excess_of earlier fields =
    first_broken
    (Where TooManyNodes (nat_lt 200000 (length (nodes_with earlier fields)))
    ∷ Where TooManyDevices (nat_lt 400000 (length (names_with earlier.devices (is_device fields) (field fields 1))))
    ∷ Where TooManyMeters (nat_lt 500000 (length (names_with earlier.meters (is_meter fields) (field fields 1))))
    ∷ [])

-- a rule on one thing, and then the others
breaks : (before : Reading) → rule_in before ≡ None → (rule : GridRule) → rule_after before (Breaks rule) ≡ Some rule
breaks (Rows earlier lines number) goes rule = refl
breaks (Stopped line broken) goes rule = absurd (none-some broken (sym goes))

source_last : (before : Reading) → rule_in before ≡ None → (a : List ℕ) → rule_after before (source_row a)
    ≡ (if not (is_name a) then Some BadName
    else (if is_among (earlier_in before).sources a then Some DuplicateSource else excess_of (earlier_in before) (codes "source" ∷ a ∷ [])))
source_last (Stopped line broken) goes a = absurd (none-some broken (sym goes))
source_last (Rows earlier lines number) goes a =
    ⊎_elim
    (λ e. ⊎_elim
    (λ (t : is_among (source_names earlier) a ≡ true). let n : is_name a ≡ true = e in rw (n, t) refl)
    (λ (t : is_among (source_names earlier) a ≡ false). let n : is_name a ≡ true = e in rw (n, t) refl)
    (cases_Bool (is_among (source_names earlier) a)))
    (λ e. rw e refl)
    (cases_Bool (is_name a))

meter_last : (before : Reading) → rule_in before ≡ None → (a b c : List ℕ) (k : ℕ) → rule_after before (meter_serving a b (Some k))
    ≡ (if is_among (earlier_in before).meters a then Some DuplicateMeter else excess_of (earlier_in before) (codes "meter" ∷ a ∷ b ∷ c ∷ []))
meter_last (Stopped line broken) goes a b c k = absurd (none-some broken (sym goes))
meter_last (Rows earlier lines number) goes a b c k = ⊎_elim (λ t. rw t refl) (λ t. rw t refl) (cases_Bool (is_among (meter_names earlier) a))

setting_last : (before : Reading) → rule_in before ≡ None → (s : Setting) (a b : List ℕ) (k : ℕ) → rule_after before (setting_to s (Some k))
    ≡ (if (earlier_in before).sets s then Some DuplicateSetting else excess_of (earlier_in before) (codes "set" ∷ a ∷ b ∷ []))
setting_last (Stopped line broken) goes s a b k = absurd (none-some broken (sym goes))
setting_last (Rows earlier lines number) goes s a b k = ⊎_elim (λ t. rw t refl) (λ t. rw t refl) (cases_Bool (has_setting earlier s))

device_last : (before : Reading) → rule_in before ≡ None → (a b c d e f : List ℕ) (closed : Bool) (kind : Kind) (k : ℕ) → rule_after before (device_between a kind c d closed (Some k))
    ≡ (if name_eq c d then Some SameEnds
    else (if is_among (earlier_in before).devices a then Some DuplicateDevice else excess_of (earlier_in before) (codes "device" ∷ a ∷ b ∷ c ∷ d ∷ e ∷ f ∷ [])))
device_last (Stopped line broken) goes a b c d e f closed kind k = absurd (none-some broken (sym goes))
device_last (Rows earlier lines number) goes a b c d e f closed kind k =
    ⊎_elim
    (λ s. rw s refl)
    (λ s. ⊎_elim
    (λ (t : is_among (device_names earlier) a ≡ true). let n : name_eq c d ≡ false = s in rw (n, t) refl)
    (λ (t : is_among (device_names earlier) a ≡ false). let n : name_eq c d ≡ false = s in rw (n, t) refl)
    (cases_Bool (is_among (device_names earlier) a)))
    (cases_Bool (name_eq c d))

module _ (before : Reading) (goes : rule_in before ≡ None) where
  by_name : (named : Bool) (r : RowReading) (others : Option GridRule) → rule_after before r ≡ others →
      rule_after before (if named then r else Breaks BadName) ≡ (if not named then Some BadName else others)
  by_name true r others e = e
  by_name false r others e = breaks before goes BadName

  source : (rest : List (List ℕ)) → IsFirst before (codes "source" ∷ rest)
  source [] = breaks before goes BadRow
  source (a ∷ []) = source_last before goes a
  source (a ∷ b ∷ []) = breaks before goes BadRow
  source (a ∷ b ∷ c ∷ []) = breaks before goes BadRow
  source (a ∷ b ∷ c ∷ d ∷ []) = breaks before goes BadRow
  source (a ∷ b ∷ c ∷ d ∷ e ∷ []) = breaks before goes BadRow
  source (a ∷ b ∷ c ∷ d ∷ e ∷ f ∷ []) = breaks before goes BadRow
  source (a ∷ b ∷ c ∷ d ∷ e ∷ f ∷ i ∷ rest) =
      let fields = codes "source" ∷ a ∷ b ∷ c ∷ d ∷ e ∷ f ∷ i ∷ rest in
      breaks before goes BadRow
      ∙ wrong_length (length fields == 2) _ (first_broken (rules_of (earlier_in before) fields)) (ne_eqb (length fields) 2 (λ s. absurd (omega arith)))

  meter_number : (name node : List ℕ) (n : Option ℕ) (others : Option GridRule) → ((k : ℕ) → rule_after before (meter_serving name node (Some k)) ≡ others) →
      rule_after before (meter_serving name node n) ≡ (if is_none n then Some BadNumber else others)
  meter_number name node None others e = breaks before goes BadNumber
  meter_number name node (Some k) others e = e k

  meter : (rest : List (List ℕ)) → IsFirst before (codes "meter" ∷ rest)
  meter [] = breaks before goes BadRow
  meter (a ∷ []) = breaks before goes BadRow
  meter (a ∷ b ∷ []) = breaks before goes BadRow
  meter (a ∷ b ∷ c ∷ []) =
      by_name (is_name a && is_name b) (meter_serving a b (decimal_within 1 most_weight c)) _
      (meter_number a b (decimal_within 1 most_weight c) _ (λ k. meter_last before goes a b c k))
  meter (a ∷ b ∷ c ∷ d ∷ []) = breaks before goes BadRow
  meter (a ∷ b ∷ c ∷ d ∷ e ∷ []) = breaks before goes BadRow
  meter (a ∷ b ∷ c ∷ d ∷ e ∷ f ∷ []) = breaks before goes BadRow
  meter (a ∷ b ∷ c ∷ d ∷ e ∷ f ∷ i ∷ rest) =
      let fields = codes "meter" ∷ a ∷ b ∷ c ∷ d ∷ e ∷ f ∷ i ∷ rest in
      breaks before goes BadRow
      ∙ wrong_length (length fields == 4) _ (first_broken (rules_of (earlier_in before) fields)) (ne_eqb (length fields) 4 (λ s. absurd (omega arith)))

  setting_value : (s : Setting) (a b : List ℕ) (v : Option ℕ) → rule_after before (setting_to s v)
      ≡ (if is_none v then Some BadNumber
      else (if (earlier_in before).sets s then Some DuplicateSetting else excess_of (earlier_in before) (codes "set" ∷ a ∷ b ∷ [])))
  setting_value s a b None = breaks before goes BadNumber
  setting_value s a b (Some k) = setting_last before goes s a b k

  setting_of : (o : Option Setting) (a b : List ℕ) → rule_after before (setting_row o b)
      ≡ (if is_none o then Some UnknownSetting
      else (if has_no_number o (λ s. value_of s b) then Some BadNumber
      else (if is_set (earlier_in before) o then Some DuplicateSetting else excess_of (earlier_in before) (codes "set" ∷ a ∷ b ∷ []))))
  setting_of None a b = breaks before goes UnknownSetting
  setting_of (Some s) a b = setting_value s a b (value_of s b)

  setting : (rest : List (List ℕ)) → IsFirst before (codes "set" ∷ rest)
  setting [] = breaks before goes BadRow
  setting (a ∷ []) = breaks before goes BadRow
  setting (a ∷ b ∷ []) = setting_of (setting_named a) a b
  setting (a ∷ b ∷ c ∷ []) = breaks before goes BadRow
  setting (a ∷ b ∷ c ∷ d ∷ []) = breaks before goes BadRow
  setting (a ∷ b ∷ c ∷ d ∷ e ∷ []) = breaks before goes BadRow
  setting (a ∷ b ∷ c ∷ d ∷ e ∷ f ∷ []) = breaks before goes BadRow
  setting (a ∷ b ∷ c ∷ d ∷ e ∷ f ∷ i ∷ rest) =
      let fields = codes "set" ∷ a ∷ b ∷ c ∷ d ∷ e ∷ f ∷ i ∷ rest in
      breaks before goes BadRow
      ∙ wrong_length (length fields == 3) _ (first_broken (rules_of (earlier_in before) fields)) (ne_eqb (length fields) 3 (λ s. absurd (omega arith)))

  weighs : (name from to : List ℕ) (closed : Bool) (kind : Kind) (w : Option ℕ) (others : Option GridRule) →
      ((k : ℕ) → rule_after before (device_between name kind from to closed (Some k)) ≡ others) →
      rule_after before (device_between name kind from to closed w) ≡ (if is_none w then Some BadNumber else others)
  weighs name from to closed kind None others e = breaks before goes BadNumber
  weighs name from to closed kind (Some k) others e = e k

  of_kind : (name from to weight : List ℕ) (closed : Bool) (o : Option Kind) (others : Option GridRule) →
      ((kind : Kind) (k : ℕ) → rule_after before (device_between name kind from to closed (Some k)) ≡ others) →
      rule_after before (device_of_kind name o from to closed weight)
      ≡ (if is_none o then Some UnknownKind else (if has_no_number o (λ kind. weight_of kind weight) then Some BadNumber else others))
  of_kind name from to weight closed None others e = breaks before goes UnknownKind
  of_kind name from to weight closed (Some kind) others e = weighs name from to closed kind (weight_of kind weight) others (e kind)

  in_state : (name kind from to weight : List ℕ) (o : Option Bool) (others : Option GridRule) →
      ((closed : Bool) → rule_after before (device_row name kind from to closed weight) ≡ others) →
      rule_after before (row_of_shape (shape_in_state name kind from to o weight)) ≡ (if is_none o then Some BadRow else others)
  in_state name kind from to weight None others e = breaks before goes BadRow
  in_state name kind from to weight (Some closed) others e = e closed

  device : (rest : List (List ℕ)) → IsFirst before (codes "device" ∷ rest)
  device [] = breaks before goes BadRow
  device (a ∷ []) = breaks before goes BadRow
  device (a ∷ b ∷ []) = breaks before goes BadRow
  device (a ∷ b ∷ c ∷ []) = breaks before goes BadRow
  device (a ∷ b ∷ c ∷ d ∷ []) = breaks before goes BadRow
  device (a ∷ b ∷ c ∷ d ∷ e ∷ []) = breaks before goes BadRow
  device (a ∷ b ∷ c ∷ d ∷ e ∷ f ∷ []) =
      in_state a b c d f (state_named e) (first_broken (rules_of (earlier_in before) (codes "device" ∷ a ∷ b ∷ c ∷ d ∷ e ∷ f ∷ []))) (λ closed.
      by_name (is_name a && (is_name c && is_name d)) (device_of_kind a (kind_named b) c d closed f) _
      (of_kind a c d f closed (kind_named b) _ (λ kind k. device_last before goes a b c d e f closed kind k)))
  device (a ∷ b ∷ c ∷ d ∷ e ∷ f ∷ i ∷ rest) =
      let fields = codes "device" ∷ a ∷ b ∷ c ∷ d ∷ e ∷ f ∷ i ∷ rest in
      breaks before goes BadRow
      ∙ wrong_length (length fields == 7) _ (first_broken (rules_of (earlier_in before) fields)) (ne_eqb (length fields) 7 (λ s. absurd (omega arith)))

  module _ (word : List ℕ) (not_source : bytes_eq word (codes "source") ≡ false) (not_device : bytes_eq word (codes "device") ≡ false)
      (not_meter : bytes_eq word (codes "meter") ≡ false) (not_set : bytes_eq word (codes "set") ≡ false) where
    unknown : is_one_of word (codes "source" ∷ codes "device" ∷ codes "meter" ∷ codes "set" ∷ []) ≡ false
    unknown =
        falls (bytes_eq word (codes "source")) _ not_source
        (falls (bytes_eq word (codes "device")) _ not_device
        (falls (bytes_eq word (codes "meter")) _ not_meter
        (falls (bytes_eq word (codes "set")) _ not_set refl)))

    refuses : (rest : List (List ℕ)) → Some BadRow ≡ first_broken (Where BadRow (has_bad_shape (word ∷ rest)) ∷ rules_of (earlier_in before) (word ∷ rest))
    refuses rest = no_sort (is_one_of word (codes "source" ∷ codes "device" ∷ codes "meter" ∷ codes "set" ∷ [])) _ (first_broken (rules_of (earlier_in before) (word ∷ rest))) unknown

    of_shape : (o : Option Shape) (rest : List (List ℕ)) → o ≡ None → rule_after before (row_of_shape o) ≡ first_broken (Where BadRow (has_bad_shape (word ∷ rest)) ∷ rules_of (earlier_in before) (word ∷ rest))
    of_shape o rest e = ap (λ x. rule_after before (row_of_shape x)) e ∙ breaks before goes BadRow ∙ refuses rest

    skips : {A : Type 0} (b : Bool) (x y : A) → b ≡ false → (if b then x else y) ≡ y
    skips true x y e = absurd (false≢true (sym e))
    skips false x y e = refl

    other : (rest : List (List ℕ)) → IsFirst before (word ∷ rest)
    other [] = breaks before goes BadRow ∙ refuses []
    other (a ∷ []) = of_shape (source_shape word a) (a ∷ []) (skips (bytes_eq word (codes "source")) _ None not_source)
    other (a ∷ b ∷ []) = of_shape (setting_shape word a b) (a ∷ b ∷ []) (skips (bytes_eq word (codes "set")) _ None not_set)
    other (a ∷ b ∷ c ∷ []) = of_shape (meter_shape word a b c) (a ∷ b ∷ c ∷ []) (skips (bytes_eq word (codes "meter")) _ None not_meter)
    other (a ∷ b ∷ c ∷ d ∷ []) = breaks before goes BadRow ∙ refuses (a ∷ b ∷ c ∷ d ∷ [])
    other (a ∷ b ∷ c ∷ d ∷ e ∷ []) = breaks before goes BadRow ∙ refuses (a ∷ b ∷ c ∷ d ∷ e ∷ [])
    other (a ∷ b ∷ c ∷ d ∷ e ∷ f ∷ []) = of_shape (device_shape word a b c d e f) (a ∷ b ∷ c ∷ d ∷ e ∷ f ∷ []) (skips (bytes_eq word (codes "device")) _ None not_device)
    other (a ∷ b ∷ c ∷ d ∷ e ∷ f ∷ i ∷ rest) = breaks before goes BadRow ∙ refuses (a ∷ b ∷ c ∷ d ∷ e ∷ f ∷ i ∷ rest)

  of_fields : (fields : List (List ℕ)) → IsFirst before fields
  of_fields [] = breaks before goes BadRow
  of_fields (word ∷ rest) =
      let P = λ (w : List ℕ). IsFirst before (w ∷ rest) in
      is_word P word (codes "source") (source rest) (λ a.
      is_word P word (codes "device") (device rest) (λ b.
      is_word P word (codes "meter") (meter rest) (λ c.
      is_word P word (codes "set") (setting rest) (λ d.
      other word a b c d rest))))

  -- the length and the fields come first
  front : (long short empty bad : Bool) (o : Option Shape) (others : Option GridRule) → short ≡ not long →
      rule_after before (row_of_shape o) ≡ (if bad then Some BadRow else others) →
      rule_after before (row_of_shape (if short && not empty then o else None)) ≡ (if (long || (empty || bad)) then Some BadRow else others)
  front true true empty bad o others s e = absurd (false≢true (sym s))
  front true false empty bad o others s e = breaks before goes BadRow
  front false false empty bad o others s e = absurd (false≢true s)
  front false true true bad o others s e = breaks before goes BadRow
  front false true false bad o others s e = e

  short_is : (line : List ℕ) → nat_le (length line) most_line ≡ not (nat_lt most_line (length line))
  short_is line =
      ⊎_elim
      (λ l. lt-leb (length line) most_line l ∙ sym (ap not (lt-ltb most_line (length line) l)))
      (λ l. le-leb (length line) most_line l ∙ sym (ap not (le-ltb most_line (length line) l)))
      (cases_lt most_line (length line))

  in_order : (line : List ℕ) → rule_after before (row_of line) ≡ first_broken (network_rules (earlier_in before) line)
  unfolding row_of shape_of
  in_order line =
      let fields = between_commas line in
      front (nat_lt most_line (length line)) (nat_le (length line) most_line) (has_no_fields line) (has_bad_shape fields) (shape_of_fields fields)
      (first_broken (rules_of (earlier_in before) fields)) (short_is line) (of_fields fields)

-- a line that isn't skipped is stopped by the rule that stops its row
stops : (before : Reading) → rule_in before ≡ None → (line : List ℕ) → is_skipped line ≡ false → rule_in (with_line before line) ≡ rule_after before (row_of line)
stops (Stopped at broken) goes line counts = absurd (none-some broken (sym goes))
stops (Rows earlier lines number) goes line counts =
    ap (λ b. rule_in (if b then Rows earlier lines (number + 1) else with_row earlier lines number (row_of line))) counts ∙ by_row (row_of line)
  where
    by_row : (r : RowReading) → rule_in (with_row earlier lines number r) ≡ rule_after (Rows earlier lines number) r
    by_row (Breaks rule) = refl
    by_row (IsRow row) = ⊎_elim (λ e. rw e refl) (λ e. rw e.1 refl) (found (broken_after earlier row))

goes_on : (before : Reading) → rule_in before ≡ None → (line : List ℕ) → is_skipped line ≡ true → rule_in (with_line before line) ≡ None
goes_on (Stopped at broken) goes line skips = absurd (none-some broken (sym goes))
goes_on (Rows earlier lines number) goes line skips =
    ap (λ b. rule_in (if b then Rows earlier lines (number + 1) else with_row earlier lines number (row_of line))) skips

pub first_rule_stops : (before : Reading) (line : List ℕ) → rule_in before ≡ None → FirstRuleStops before line
first_rule_stops before line goes = record {
  skipped = goes_on before goes line;
  refused = λ counts. stops before goes line counts ∙ in_order before goes line;
}
