-- What the answers of the reader say of a line.
use Rattle.std.proofs.Common.{◌≡◌, ◌↔◌, ◌<◌, ◌≤◌, ℕ, Bool, true, false, cond, List, length, Option, Some, None, Result, Ok, Err, refl, sym, ap, ◌∙◌}
use Rattle.std.proofs.lemmas.Bool.{lt-ltb, le-ltb}
use Rattle.std.proofs.lemmas.Option.{same_Some}
use Rattle.grid_model.specs.Parts.{Parts}
use Rattle.grid_model.specs.declared.history.Event.{Event}
use Rattle.line_text.specs.declared.rows.FieldsFault.{FieldsFault}
use Rattle.line_text.specs.declared.rows.FieldsFault.TheVariants as no_fields
use Rattle.event_rules.specs.declared.read_rule.ReadRule.{ReadRule}
use Rattle.event_rules.specs.declared.read_rule.ReadRule.TheVariants as rule
use Rattle.event_rules.specs.Lines.{is_skipped}
use Rattle.event_rules.specs.Fields.{between_commas, has_no_fields}
use Rattle.event_rules.specs.EventLines.{IsSkipped, IsEvent, IsRefused, event_of_fields, reading_of, event_reading}
use Rattle.event_reader.specs.declared.refusal.ReadRefusal.{ReadRefusal}
use Rattle.event_reader.specs.declared.refusal.ReadRefusal.TheVariants.{TooLong, BadFields, BadWord, BadTime, BadName, UnknownMeter, UnknownDevice, Memory}
use Rattle.line_text.specs.LineSorts.{IsTooLong, IsBare, IsRow}
use Rattle.event_reader.specs.Reading.{IsReading}
use Rattle.event_reader.specs.Refusals.{refusal_by, refusal_without_fields}

-- the rule of a refusal
rule_in : ReadRefusal → Option ReadRule
rule_in TooLong = Some rule.TooLong
rule_in BadFields = Some rule.BadFields
rule_in BadWord = Some rule.BadWord
rule_in BadTime = Some rule.BadTime
rule_in BadName = Some rule.BadName
rule_in UnknownMeter = Some rule.UnknownMeter
rule_in UnknownDevice = Some rule.UnknownDevice
rule_in Memory = None

rule_back : (r : ReadRule) → rule_in (refusal_by r) ≡ Some r
unfolding rule_in
rule_back rule.TooLong = refl
rule_back rule.BadFields = refl
rule_back rule.BadWord = refl
rule_back rule.BadTime = refl
rule_back rule.BadName = refl
rule_back rule.UnknownMeter = refl
rule_back rule.UnknownDevice = refl

-- each refusal is by one rule
same_rule : (a b : ReadRule) → refusal_by a ≡ refusal_by b → a ≡ b
same_rule a b e = same_Some a b (sym (rule_back a) ∙ ap rule_in e ∙ rule_back b)

memory_by_none : (r : ReadRule) → Memory ≡ refusal_by r → None ≡ Some r
unfolding rule_in
memory_by_none r e = ap rule_in e ∙ rule_back r

-- the answers of a line, from the first test to the last
long : (skipped too_long bare : Bool) (read : Result Event ReadRule) → skipped ≡ false → too_long ≡ true
    → cond skipped IsSkipped (reading_of (cond too_long (Err rule.TooLong) (cond bare (Err rule.BadFields) read))) ≡ IsRefused rule.TooLong
long skipped too_long bare read a b = rw (a, b) refl

without_fields : (skipped too_long bare : Bool) (read : Result Event ReadRule) → skipped ≡ false → too_long ≡ false → bare ≡ true
    → cond skipped IsSkipped (reading_of (cond too_long (Err rule.TooLong) (cond bare (Err rule.BadFields) read))) ≡ IsRefused rule.BadFields
without_fields skipped too_long bare read a b c = rw (a, b, c) refl

with_fields : (skipped too_long bare : Bool) (read : Result Event ReadRule) → skipped ≡ false → too_long ≡ false → bare ≡ false
    → cond skipped IsSkipped (reading_of (cond too_long (Err rule.TooLong) (cond bare (Err rule.BadFields) read))) ≡ reading_of read
with_fields skipped too_long bare read a b c = rw (a, b, c) refl

-- a line that is too long
pub long_refused : (g : Parts) (line : List ℕ) (r : ReadRule) → is_skipped line ≡ false → 512 < length line → TooLong ≡ refusal_by r → event_reading g line ≡ IsRefused r
unfolding event_reading
long_refused g line r skipped more e =
    long (is_skipped line) _ (has_no_fields line) (event_of_fields g (between_commas line)) skipped (lt-ltb 512 (length line) more)
    ∙ ap IsRefused (same_rule rule.TooLong r e)

-- a line without fields
pub fields_refused : (g : Parts) (line : List ℕ) (fault : FieldsFault) (r : ReadRule)
    → is_skipped line ≡ false → length line ≤ 512 → (fault ≡ no_fields.Bad → has_no_fields line ≡ true) → refusal_without_fields fault ≡ refusal_by r
    → event_reading g line ≡ IsRefused r
unfolding event_reading
fields_refused g line no_fields.Bad r skipped short bare e =
    without_fields (is_skipped line) _ (has_no_fields line) (event_of_fields g (between_commas line)) skipped (le-ltb 512 (length line) short) (bare refl)
    ∙ ap IsRefused (same_rule rule.BadFields r e)
fields_refused g line no_fields.Memory r skipped short bare e = let none = memory_by_none r e in cc

-- a line with fields says what they say
pub fields_read : (g : Parts) (line : List ℕ) (read : Result Event ReadRule) → is_skipped line ≡ false → length line ≤ 512 → has_no_fields line ≡ false
    → event_of_fields g (between_commas line) ≡ read → event_reading g line ≡ reading_of read
unfolding event_reading
fields_read g line read skipped short bare e =
    with_fields (is_skipped line) _ (has_no_fields line) (event_of_fields g (between_commas line)) skipped (le-ltb 512 (length line) short) bare ∙ ap reading_of e

pub event_refused : (g : Parts) (line : List ℕ) (broken r : ReadRule) → is_skipped line ≡ false → length line ≤ 512 → has_no_fields line ≡ false
    → event_of_fields g (between_commas line) ≡ Err broken → refusal_by broken ≡ refusal_by r → event_reading g line ≡ IsRefused r
event_refused g line broken r skipped short bare e same = fields_read g line (Err broken) skipped short bare e ∙ ap IsRefused (same_rule broken r same)

-- the refusals of equal answers
pub same_refusal : (a b : ReadRefusal) (answer : Result (Option Event) ReadRefusal) → answer ≡ Err a → answer ≡ Err b → a ≡ b
same_refusal a b answer is_a is_b = cc

pub same_event : (a b : Event) → ◌≡◌ {A = Result (Option Event) ReadRefusal} (Ok (Some a)) (Ok (Some b)) → a ≡ b
same_event a b e = cc

-- what is read of a line by its sort
pub skipped_read : (g : Parts) (line : List ℕ) → is_skipped line ≡ true → IsReading g line (Ok None)
skipped_read g line h = record { skipped = (λ e. h, λ e. refl); event = λ event e. cc; bound = tt; refused = λ rule e. cc }

not_skipped : (line : List ℕ) (refusal : ReadRefusal) → is_skipped line ≡ false → (◌≡◌ {A = Result (Option Event) ReadRefusal} (Err refusal) (Ok None)) ↔ (is_skipped line ≡ true)
not_skipped line refusal h = (λ e. cc, λ e. cc)

pub too_long_read : (g : Parts) (line : List ℕ) → IsTooLong line → IsReading g line (Err TooLong)
too_long_read g line h = record {
  skipped = not_skipped line TooLong h.not_skipped;
  event = λ event e. cc;
  bound = tt;
  refused = λ rule e. long_refused g line rule h.not_skipped h.long (same_refusal TooLong (refusal_by rule) (Err TooLong) refl e);
}

pub bare_read : (g : Parts) (line : List ℕ) → IsBare line → IsReading g line (Err BadFields)
bare_read g line h = record {
  skipped = not_skipped line BadFields h.not_skipped;
  event = λ event e. cc;
  bound = tt;
  refused = λ rule e.
      fields_refused g line no_fields.Bad rule h.not_skipped h.short (λ bad. h.bare) (same_refusal BadFields (refusal_by rule) (Err BadFields) refl e);
}

pub row_refused : (g : Parts) (line : List ℕ) (broken : ReadRule) (refusal : ReadRefusal) (read : Result (Option Event) ReadRefusal) → IsRow line
    → event_of_fields g (between_commas line) ≡ Err broken → refusal ≡ refusal_by broken → read ≡ Err refusal → IsReading g line read
row_refused g line broken refusal read h e by is =
    rw is
    (record {
      skipped = not_skipped line refusal h.not_skipped;
      event = λ event same. cc;
      bound = tt;
      refused = λ rule same.
          event_refused g line broken rule h.not_skipped h.short h.has_fields e (sym by ∙ same_refusal refusal (refusal_by rule) (Err refusal) refl same);
    })

pub row_event : (g : Parts) (line : List ℕ) (event : Event) → IsRow line → event_of_fields g (between_commas line) ≡ Ok event → event.time.0 ≤ 253402300799
    → IsReading g line (Ok (Some event))
row_event g line event h e small = record {
  skipped = (λ none. cc, λ skipped. let said = h.not_skipped in cc);
  event = λ other same. fields_read g line (Ok event) h.not_skipped h.short h.has_fields e ∙ ap IsEvent (same_event event other same);
  bound = small;
  refused = λ rule same. cc;
}

-- where memory was wanting, nothing is said of a row
pub memory_read : (g : Parts) (line : List ℕ) → IsRow line → IsReading g line (Err Memory)
memory_read g line h = record {
  skipped = not_skipped line Memory h.not_skipped;
  event = λ event e. cc;
  bound = tt;
  refused = λ rule e. let none = memory_by_none rule (same_refusal Memory (refusal_by rule) (Err Memory) refl e) in cc;
}
