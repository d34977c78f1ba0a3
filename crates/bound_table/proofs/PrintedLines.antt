-- A printed line says what it was printed of.
use Rattle.std.proofs.Common.{◌≡◌, ◌<◌, ◌≤◌, ◌==◌, ◌||◌, not, true, false, Bool, ℕ, List, [], ◌∷◌, length, Option, Some, None, Ok, refl, arith, lit≤, length-append}
use Rattle.std.specs.Prelude.{decimal, codes, nat_le, IfSome, Result}
use Rattle.std.specs.List.{list_any, join_with_byte}
use Rattle.std.specs.Str.{bytes_eq}
use Rattle.std.proofs.lemmas.Bool.{and_from, or_right, not_from_false, le-leb}
use Rattle.grid_model.specs.Parts.{Parts}
use Rattle.grid_model.specs.Name.{is_name}
use Rattle.grid_model.specs.Places.{no_device}
use Rattle.grid_model.specs.Sound.{IsSoundParts}
use Rattle.grid_model.specs.declared.parts.NodeId.{NodeId}
use Rattle.grid_model.specs.declared.parts.DeviceId.{DeviceId}
use Rattle.event_rules.specs.Lines.{most_line}
use Rattle.event_rules.specs.Fields.{between_commas}
use Rattle.event_rules.specs.Decimals.{decimal_within}
use Rattle.bound_table.specs.declared.bounds.BoundRow.{BoundRow}
use Rattle.bound_table.specs.declared.bounds.BoundRule.{BoundRule}
use Rattle.bound_table.specs.declared.bound_line.BoundLine.{BoundLine}
use Rattle.bound_table.specs.declared.bound_line.BoundLine.TheVariants.{Cut, Row, End}
use Rattle.bound_table.specs.Sound.{most_cost, most_depth, IsRowOf}
use Rattle.bound_table.specs.Printed.{device_name, node_name, parent_word}
use Rattle.bound_table.specs.BoundLines.{is_plain, cost_of, is_parent, device_of, node_of, parent_of, line_of_fields, line_of}
use Rattle.bound_table.proofs.WordBytes.{is_word, name_text, decimal-word, decimal_within-decimal, length-decimal}
use Rattle.bound_table.proofs.Commas.{are_words, words_plain, between_commas-join}
use Rattle.bound_table.proofs.Lookups.{device_of-name, node_of-name}

plain_line : (words : List (List ℕ)) → are_words words ≡ true → length (join_with_byte 44 words) ≤ 512 → is_plain (join_with_byte 44 words) ≡ true
plain_line words h l =
    and_from (nat_le (length (join_with_byte 44 words)) most_line) (not (list_any (λ b. (b == 13) || (b == 34)) (join_with_byte 44 words)))
    (le-leb (length (join_with_byte 44 words)) most_line l) (not_from_false (list_any (λ b. (b == 13) || (b == 34)) (join_with_byte 44 words)) (words_plain words h))

-- the words of a line decide what it says
cost_of-fields : (line word text : List ℕ) (cost : ℕ) → is_plain line ≡ true → between_commas line ≡ word ∷ text ∷ [] → decimal_within 0 most_cost text ≡ Some cost → cost_of line ≡ Ok cost
unfolding cost_of
cost_of-fields line word text cost plain fields value = rw (plain, fields, value) refl

line_of-fields : (g : Parts) (may_cut : Bool) (line word : List ℕ) (fields : List (List ℕ)) (r : Result BoundLine BoundRule) → is_plain line ≡ true → between_commas line ≡ word ∷ fields → line_of_fields g may_cut (word ∷ fields) ≡ r → line_of g may_cut line ≡ r
unfolding line_of
line_of-fields g may_cut line word fields r plain parts e = rw (plain, parts) e

cut_fields : (g : Parts) (name : List ℕ) (d : DeviceId) → is_name name ≡ true → device_of g name ≡ Ok d → line_of_fields g true (codes "cut" ∷ name ∷ []) ≡ Ok (Cut d)
cut_fields g name d h e = rw (h, e) refl

row_fields : (g : Parts) (may_cut : Bool) (node parent depth live dark : List ℕ) (n : NodeId) (p : Option DeviceId) (d l k : ℕ) → is_name node ≡ true → is_parent parent ≡ true → node_of g node ≡ Ok n → parent_of g parent ≡ Ok p → decimal_within 0 most_depth depth ≡ Some d → decimal_within 0 most_cost live ≡ Some l → decimal_within 0 most_cost dark ≡ Some k → line_of_fields g may_cut (codes "row" ∷ node ∷ parent ∷ depth ∷ live ∷ dark ∷ []) ≡ Ok (Row (record { node = n; parent = p; depth = d; live = l; dark = k }))
row_fields g may_cut node parent depth live dark n p d l k hn hp en ep ed el ek = rw (hn, hp, en, ep, ed, el, ek) refl

-- bounds,COST
pub cost_words : (cost : ℕ) → cost ≤ most_cost → are_words (codes "bounds" ∷ decimal cost ∷ []) ≡ true
cost_words cost h = and_from (is_word (decimal cost)) true (decimal-word cost (omega arith)) refl

pub cost_line : (cost : ℕ) → cost ≤ most_cost → cost_of (join_with_byte 44 (codes "bounds" ∷ decimal cost ∷ [])) ≡ Ok cost
cost_line cost h =
    cost_of-fields (join_with_byte 44 (codes "bounds" ∷ decimal cost ∷ [])) (codes "bounds") (decimal cost) cost
    (plain_line (codes "bounds" ∷ decimal cost ∷ []) (cost_words cost h) (omega (arith, length-decimal cost h)))
    (between_commas-join (codes "bounds") (decimal cost ∷ []) (cost_words cost h))
    (decimal_within-decimal most_cost cost (omega arith) h)

device_is_name : (g : Parts) (d : DeviceId) → IsSoundParts g → d.0 < length g.devices → is_name (device_name g d) ≡ true
device_is_name g d sound h = sound.names.devices d.0 no_device h

node_is_name : (g : Parts) (n : NodeId) → IsSoundParts g → n.0 < length g.nodes → is_name (node_name g n) ≡ true
node_is_name g n sound h = sound.names.nodes n.0 [] h

-- cut,DEVICE
pub cut_words : (g : Parts) (d : DeviceId) → IsSoundParts g → d.0 < length g.devices → are_words (codes "cut" ∷ device_name g d ∷ []) ≡ true
cut_words g d sound h = and_from (is_word (device_name g d)) true (name_text (device_name g d) (device_is_name g d sound h)).word refl

pub cut_line : (g : Parts) (d : DeviceId) → IsSoundParts g → d.0 < length g.devices → line_of g true (join_with_byte 44 (codes "cut" ∷ device_name g d ∷ [])) ≡ Ok (Cut d)
cut_line g d sound h =
    let name = device_is_name g d sound h in
    let text = name_text (device_name g d) name in
    line_of-fields g true (join_with_byte 44 (codes "cut" ∷ device_name g d ∷ [])) (codes "cut") (device_name g d ∷ []) (Ok (Cut d))
    (plain_line (codes "cut" ∷ device_name g d ∷ []) (cut_words g d sound h) (omega (arith, text.short)))
    (between_commas-join (codes "cut") (device_name g d ∷ []) (cut_words g d sound h))
    (cut_fields g (device_name g d) d name (device_of-name g d sound h))

-- the word of a parent
record IsParentText (g : Parts) (p : Option DeviceId) (text : List ℕ) : Type 0 where
  word : is_word text ≡ true
  short : length text ≤ 32
  parent : is_parent text ≡ true
  read : parent_of g text ≡ Ok p

parent_text : (g : Parts) (p : Option DeviceId) → IsSoundParts g → IfSome p (λ d. d.0 < length g.devices) → IsParentText g p (parent_word g p)
parent_text g None sound h = record { word = refl; short = lit≤ tt; parent = refl; read = refl }
parent_text g (Some d) sound h =
    let name = device_is_name g d sound h in
    let text = name_text (device_name g d) name in
    record {
      word = text.word;
      short = text.short;
      parent = or_right (bytes_eq (device_name g d) (codes "-")) (is_name (device_name g d)) name;
      read = parent_read g (device_name g d) d text.no_dash (device_of-name g d sound h);
    }
  where
    parent_read : (g : Parts) (text : List ℕ) (d : DeviceId) → bytes_eq text (codes "-") ≡ false → device_of g text ≡ Ok d → parent_of g text ≡ Ok (Some d)
    parent_read g text d h e = rw (h, e) refl

-- row,NODE,PARENT,DEPTH,LIVE,DARK
abbrev pub row_words : Parts → BoundRow → List (List ℕ)
row_words g r = codes "row" ∷ node_name g r.node ∷ parent_word g r.parent ∷ decimal r.depth ∷ decimal r.live ∷ decimal r.dark ∷ []

five_words : (a b c d e : List ℕ) → is_word a ≡ true → is_word b ≡ true → is_word c ≡ true → is_word d ≡ true → is_word e ≡ true → are_words (codes "row" ∷ a ∷ b ∷ c ∷ d ∷ e ∷ []) ≡ true
five_words a b c d e ha hb hc hd he = rw (ha, hb, hc, hd, he) refl

five_length : (a b c d e : List ℕ) → length a ≤ 32 → length b ≤ 32 → length c ≤ 16 → length d ≤ 16 → length e ≤ 16 → length (join_with_byte 44 (codes "row" ∷ a ∷ b ∷ c ∷ d ∷ e ∷ [])) ≤ 512
five_length a b c d e ha hb hc hd he = simp length-append (omega arith)

pub row_are_words : (g : Parts) (r : BoundRow) → IsSoundParts g → IsRowOf g r → are_words (row_words g r) ≡ true
row_are_words g r sound h =
    five_words (node_name g r.node) (parent_word g r.parent) (decimal r.depth) (decimal r.live) (decimal r.dark)
    (name_text (node_name g r.node) (node_is_name g r.node sound h.node)).word (parent_text g r.parent sound h.parent).word
    (decimal-word r.depth (omega (arith, h.depth))) (decimal-word r.live (omega (arith, h.live))) (decimal-word r.dark (omega (arith, h.dark)))

pub row_line : (g : Parts) (may_cut : Bool) (r : BoundRow) → IsSoundParts g → IsRowOf g r → line_of g may_cut (join_with_byte 44 (row_words g r)) ≡ Ok (Row r)
row_line g may_cut r sound h =
    let name = node_is_name g r.node sound h.node in
    let node = name_text (node_name g r.node) name in
    let parent = parent_text g r.parent sound h.parent in
    let words = row_are_words g r sound h in
    line_of-fields g may_cut (join_with_byte 44 (row_words g r)) (codes "row") (node_name g r.node ∷ parent_word g r.parent ∷ decimal r.depth ∷ decimal r.live ∷ decimal r.dark ∷ []) (Ok (Row r))
    (plain_line (row_words g r) words
    (five_length (node_name g r.node) (parent_word g r.parent) (decimal r.depth) (decimal r.live) (decimal r.dark) node.short parent.short
    (length-decimal r.depth (omega (arith, h.depth))) (length-decimal r.live h.live) (length-decimal r.dark h.dark)))
    (between_commas-join (codes "row") (node_name g r.node ∷ parent_word g r.parent ∷ decimal r.depth ∷ decimal r.live ∷ decimal r.dark ∷ []) words)
    (row_fields g may_cut (node_name g r.node) (parent_word g r.parent) (decimal r.depth) (decimal r.live) (decimal r.dark) r.node r.parent r.depth r.live r.dark
    name parent.parent (node_of-name g r.node sound h.node) parent.read
    (decimal_within-decimal most_depth r.depth (omega (arith, h.depth)) h.depth) (decimal_within-decimal most_cost r.live (omega (arith, h.live)) h.live)
    (decimal_within-decimal most_cost r.dark (omega (arith, h.dark)) h.dark))

-- endbounds
pub end_line : (g : Parts) (may_cut : Bool) → line_of g may_cut (join_with_byte 44 (codes "endbounds" ∷ [])) ≡ Ok End
end_line g may_cut =
    line_of-fields g may_cut (codes "endbounds") (codes "endbounds") [] (Ok End) refl (between_commas-join (codes "endbounds") [] refl) refl
