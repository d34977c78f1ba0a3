-- A line that is read is what is printed of what it says.
use Rattle.std.proofs.Common.{◌≡◌, ◌<◌, ◌==◌, ◌&&◌, true, Bool, ℕ, List, [], ◌∷◌, ◌++◌, get_or, Option, Some, None, Result, Ok, Err, refl, ap, sym, ◌∙◌, inl, inr, subst, append_assoc, ◌^◌, arith}
use Rattle.std.specs.Prelude.{ok_or, position, IfSome, IfOk, codes, decimal, drop, cond}
use Rattle.std.specs.List.{join_with_byte}
use Rattle.std.specs.Str.{bytes_eq}
use Rattle.std.proofs.lemmas.Bool.{cond_both, cases_Bool, and_parts, eqb-true}
use Rattle.std.proofs.lemmas.Bool.Decides.{Decides-eqb}
use Rattle.std.proofs.lemmas.List.{append-nil}
use Rattle.std.proofs.lemmas.List.Quantifiers.{position-Some}
use Rattle.std.proofs.lemmas.Slice.Eq.{bytes_eq-Decides, starts_is}
use Rattle.grid_model.specs.Parts.{Parts}
use Rattle.grid_model.specs.Name.{is_name}
use Rattle.grid_model.specs.Names.{name_eq}
use Rattle.grid_model.specs.Places.{no_device}
use Rattle.grid_model.specs.declared.parts.NodeId.{NodeId}
use Rattle.grid_model.specs.declared.parts.DeviceId.{DeviceId}
use Rattle.event_rules.specs.Fields.{parts_from, between_commas}
use Rattle.event_rules.specs.Decimals.{decimal_within}
use Rattle.line_text.proofs.FieldParts.{parts_from-cut, parts_from-some}
use Rattle.line_text.proofs.DecimalTexts.{decimal_within-spelled}
use Rattle.bound_table.specs.declared.bounds.BoundRule.{BoundRule}
use Rattle.bound_table.specs.declared.bounds.BoundRule.TheVariants.{BadRow, BadName, BadNumber}
use Rattle.bound_table.specs.declared.bound_line.BoundLine.{BoundLine}
use Rattle.bound_table.specs.declared.bound_line.BoundLine.TheVariants.{Cut, Row, End}
use Rattle.bound_table.specs.Sound.{most_cost, most_depth}
use Rattle.bound_table.specs.Printed.{device_name, node_name, parent_word}
use Rattle.bound_table.specs.BoundLines.{is_plain, is_parent, cost_of_fields, cost_of, device_by, device_of, node_by, node_of, cut_with, cut_of, parent_with, parent_of, row_with, row_by, row_of, end_of, line_of_fields, line_of}
use Rattle.bound_table.specs.Report.{begins_bounds}
use Rattle.bound_table.proofs.PrintedLines.{row_words}

-- what stands between the commas, with commas between, is the line
join_more : (word : List ℕ) (words : List (List ℕ)) → (words ≡ [] → ⊥) → join_with_byte 44 (word ∷ words) ≡ word ++ 44 ∷ join_with_byte 44 words
join_more word [] some = absurd (some refl)
join_more word (next ∷ words) some = refl

join_parts : (part line : List ℕ) → join_with_byte 44 (parts_from part line) ≡ part ++ line
unfolding parts_from
join_parts part [] = sym (append-nil part)
join_parts part (b ∷ line) =
    elim (cases_Bool (b == 44)) [
      | inl comma ↦
          rw comma
          (join_more part (parts_from [] line) (parts_from-some [] line) ∙ ap (λ z. part ++ 44 ∷ z) (join_parts [] line)
          ∙ ap (λ z. part ++ z ∷ line) (sym (eqb-true b 44 comma)))
      | inr other ↦ rw other (join_parts (part ++ b ∷ []) line ∙ append_assoc part (b ∷ []) line)
    ]

line_is : (line : List ℕ) (words : List (List ℕ)) → between_commas line ≡ words → line ≡ join_with_byte 44 words
line_is line words e = sym (join_parts [] line) ∙ ap (join_with_byte 44) e

-- the text of a number that is read
number_is : (most : ℕ) (text : List ℕ) → most < 2 ^ 64 → IfSome (decimal_within 0 most text) (λ n. text ≡ decimal n)
number_is most text small = known (decimal_within 0 most text) (λ n e. decimal_within-spelled text n most small e)
  where
    known : (o : Option ℕ) → ((n : ℕ) → o ≡ Some n → text ≡ decimal n) → IfSome o (λ n. text ≡ decimal n)
    known None f = tt
    known (Some n) f = f n refl

-- the name of a device that is found
first_is : {X : Type 0} (p : X → Bool) (xs : List X) (d : X) → IfSome (position p xs) (λ k. p (get_or xs k d) ≡ true)
first_is p xs d = known (position p xs) (λ k e. (position-Some p xs k d e).1)
  where
    known : (o : Option ℕ) → ((k : ℕ) → o ≡ Some k → p (get_or xs k d) ≡ true) → IfSome o (λ k. p (get_or xs k d) ≡ true)
    known None f = tt
    known (Some k) f = f k refl

abbrev IsNamed : Parts → List ℕ → DeviceId → Type 0
IsNamed g name d = name ≡ device_name g d

device_by-named : (g : Parts) (name : List ℕ) (o : Option ℕ) → IfSome o (λ k. name_eq name (get_or g.devices k no_device).name ≡ true) → IfOk (device_by o) (IsNamed g name)
device_by-named g name None h = tt
device_by-named g name (Some k) h = (bytes_eq-Decides name (get_or g.devices k no_device).name).0 h

device_of-named : (g : Parts) (name : List ℕ) → IfOk (device_of g name) (IsNamed g name)
device_of-named g name = device_by-named g name (position (λ d. name_eq name d.name) g.devices) (first_is (λ d. name_eq name d.name) g.devices no_device)

node_by-named : (g : Parts) (name : List ℕ) (o : Option ℕ) → IfSome o (λ k. name_eq name (get_or g.nodes k []) ≡ true) → IfOk (node_by o) (λ n. name ≡ node_name g n)
node_by-named g name None h = tt
node_by-named g name (Some k) h = (bytes_eq-Decides name (get_or g.nodes k [])).0 h

node_of-named : (g : Parts) (name : List ℕ) → IfOk (node_of g name) (λ n. name ≡ node_name g n)
node_of-named g name = node_by-named g name (position (name_eq name) g.nodes) (first_is (name_eq name) g.nodes [])

parent_with-named : (g : Parts) (word : List ℕ) (r : Result DeviceId BoundRule) → IfOk r (IsNamed g word) → IfOk (parent_with r) (λ p. word ≡ parent_word g p)
parent_with-named g word (Err rule) h = tt
parent_with-named g word (Ok d) h = h

parent_of-named : (g : Parts) (word : List ℕ) → IfOk (parent_of g word) (λ p. word ≡ parent_word g p)
parent_of-named g word =
    cond_both (bytes_eq word (codes "-")) (Ok None) (parent_with (device_of g word)) (λ r. IfOk r (λ p. word ≡ parent_word g p))
    (λ e. (bytes_eq-Decides word (codes "-")).0 e) (λ e. parent_with-named g word (device_of g word) (device_of-named g word))

-- the words of what a later line says
abbrev pub words_of : Parts → BoundLine → List (List ℕ)
words_of g (Cut d) = codes "cut" ∷ device_name g d ∷ []
words_of g (Row r) = row_words g r
words_of g End = codes "endbounds" ∷ []

-- a cut stands only where it may
abbrev pub IsPlaced : Bool → BoundLine → Type 0
IsPlaced may_cut (Cut d) = may_cut ≡ true
IsPlaced may_cut (Row r) = Unit {0}
IsPlaced may_cut End = Unit {0}

abbrev AreWordsOf : Parts → Bool → List (List ℕ) → Result BoundLine BoundRule → Type 0
AreWordsOf g may_cut words (Err rule) = Unit {0}
AreWordsOf g may_cut words (Ok said) = (words ≡ words_of g said) × IsPlaced may_cut said

cut_with-words : (g : Parts) (name : List ℕ) (r : Result DeviceId BoundRule) → IfOk r (IsNamed g name) → AreWordsOf g true (codes "cut" ∷ name ∷ []) (cut_with r)
cut_with-words g name (Err rule) h = tt
cut_with-words g name (Ok d) h = (ap (λ z. codes "cut" ∷ z ∷ []) h, refl)

cut_of-words : (g : Parts) (fields : List (List ℕ)) → AreWordsOf g true (codes "cut" ∷ fields) (cut_of g fields)
cut_of-words g [] = tt
cut_of-words g (device ∷ []) =
    cond_both (is_name device) (cut_with (device_of g device)) (Err BadName) (AreWordsOf g true (codes "cut" ∷ device ∷ []))
    (λ e. cut_with-words g device (device_of g device) (device_of-named g device)) (λ e. tt)
cut_of-words g (device ∷ more ∷ rest) = tt

five_same : (a b c d e node parent depth live dark : List ℕ) → a ≡ node → b ≡ parent → c ≡ depth → d ≡ live → e ≡ dark → codes "row" ∷ a ∷ b ∷ c ∷ d ∷ e ∷ [] ≡ codes "row" ∷ node ∷ parent ∷ depth ∷ live ∷ dark ∷ []
five_same a b c d e node parent depth live dark ha hb hc hd he = rw (ha, hb, hc, hd, he) refl

row_with-words : (g : Parts) (may_cut : Bool) (a b c d e : List ℕ) (node : Result NodeId BoundRule) (parent : Result (Option DeviceId) BoundRule) (depth live dark : ℕ) → IfOk node (λ n. a ≡ node_name g n) → IfOk parent (λ p. b ≡ parent_word g p) → c ≡ decimal depth → d ≡ decimal live → e ≡ decimal dark → AreWordsOf g may_cut (codes "row" ∷ a ∷ b ∷ c ∷ d ∷ e ∷ []) (row_with node parent depth live dark)
row_with-words g may_cut a b c d e (Err rule) parent depth live dark ha hb hc hd he = tt
row_with-words g may_cut a b c d e (Ok n) (Err rule) depth live dark ha hb hc hd he = tt
row_with-words g may_cut a b c d e (Ok n) (Ok p) depth live dark ha hb hc hd he = (five_same a b c d e (node_name g n) (parent_word g p) (decimal depth) (decimal live) (decimal dark) ha hb hc hd he, tt)

row_by-words : (g : Parts) (may_cut : Bool) (a b c d e : List ℕ) (node : Result NodeId BoundRule) (parent : Result (Option DeviceId) BoundRule) (depth live dark : Option ℕ) → IfOk node (λ n. a ≡ node_name g n) → IfOk parent (λ p. b ≡ parent_word g p) → IfSome depth (λ n. c ≡ decimal n) → IfSome live (λ n. d ≡ decimal n) → IfSome dark (λ n. e ≡ decimal n) → AreWordsOf g may_cut (codes "row" ∷ a ∷ b ∷ c ∷ d ∷ e ∷ []) (row_by node parent depth live dark)
row_by-words g may_cut a b c d e node parent None live dark ha hb hc hd he = tt
row_by-words g may_cut a b c d e node parent (Some depth) None dark ha hb hc hd he = tt
row_by-words g may_cut a b c d e node parent (Some depth) (Some live) None ha hb hc hd he = tt
row_by-words g may_cut a b c d e node parent (Some depth) (Some live) (Some dark) ha hb hc hd he = row_with-words g may_cut a b c d e node parent depth live dark ha hb hc hd he

row_of-words : (g : Parts) (may_cut : Bool) (fields : List (List ℕ)) → AreWordsOf g may_cut (codes "row" ∷ fields) (row_of g fields)
row_of-words g may_cut [] = tt
row_of-words g may_cut (node ∷ []) = tt
row_of-words g may_cut (node ∷ parent ∷ []) = tt
row_of-words g may_cut (node ∷ parent ∷ depth ∷ []) = tt
row_of-words g may_cut (node ∷ parent ∷ depth ∷ live ∷ []) = tt
row_of-words g may_cut (node ∷ parent ∷ depth ∷ live ∷ dark ∷ []) =
    cond_both (is_name node && is_parent parent)
    (row_by (node_of g node) (parent_of g parent) (decimal_within 0 most_depth depth) (decimal_within 0 most_cost live) (decimal_within 0 most_cost dark)) (Err BadName)
    (AreWordsOf g may_cut (codes "row" ∷ node ∷ parent ∷ depth ∷ live ∷ dark ∷ []))
    (λ h. row_by-words g may_cut node parent depth live dark (node_of g node) (parent_of g parent) (decimal_within 0 most_depth depth) (decimal_within 0 most_cost live) (decimal_within 0 most_cost dark)
    (node_of-named g node) (parent_of-named g parent) (number_is most_depth depth (omega arith)) (number_is most_cost live (omega arith)) (number_is most_cost dark (omega arith)))
    (λ h. tt)
row_of-words g may_cut (node ∷ parent ∷ depth ∷ live ∷ dark ∷ more ∷ rest) = tt

end_of-words : (g : Parts) (may_cut : Bool) (fields : List (List ℕ)) → AreWordsOf g may_cut (codes "endbounds" ∷ fields) (end_of fields)
end_of-words g may_cut [] = (refl, tt)
end_of-words g may_cut (more ∷ rest) = tt

-- a word that is this one may be taken for it
word_taken : (g : Parts) (may_cut : Bool) (word text : List ℕ) (fields : List (List ℕ)) (r : Result BoundLine BoundRule) → bytes_eq word text ≡ true → AreWordsOf g may_cut (text ∷ fields) r → AreWordsOf g may_cut (word ∷ fields) r
word_taken g may_cut word text fields r e h = subst (λ z. AreWordsOf g may_cut (z ∷ fields) r) (sym ((bytes_eq-Decides word text).0 e)) h

line_of_fields-words : (g : Parts) (may_cut : Bool) (fields : List (List ℕ)) → AreWordsOf g may_cut fields (line_of_fields g may_cut fields)
line_of_fields-words g may_cut [] = tt
line_of_fields-words g may_cut (word ∷ fields) =
    cond_both (bytes_eq word (codes "cut") && may_cut) (cut_of g fields)
    (cond (bytes_eq word (codes "row")) (row_of g fields) (cond (bytes_eq word (codes "endbounds")) (end_of fields) (Err BadRow))) (AreWordsOf g may_cut (word ∷ fields))
    (λ h. let both = and_parts (bytes_eq word (codes "cut")) may_cut h in
    word_taken g may_cut word (codes "cut") fields (cut_of g fields) both.0
    (subst (λ z. AreWordsOf g z (codes "cut" ∷ fields) (cut_of g fields)) (sym both.1) (cut_of-words g fields)))
    (λ h. cond_both (bytes_eq word (codes "row")) (row_of g fields) (cond (bytes_eq word (codes "endbounds")) (end_of fields) (Err BadRow)) (AreWordsOf g may_cut (word ∷ fields))
    (λ h2. word_taken g may_cut word (codes "row") fields (row_of g fields) h2 (row_of-words g may_cut fields))
    (λ h2. cond_both (bytes_eq word (codes "endbounds")) (end_of fields) (Err BadRow) (AreWordsOf g may_cut (word ∷ fields))
    (λ h3. word_taken g may_cut word (codes "endbounds") fields (end_of fields) h3 (end_of-words g may_cut fields)) (λ h3. tt)))

-- a later line that says something
abbrev pub IsLineSpelled : Parts → Bool → List ℕ → Result BoundLine BoundRule → Type 0
IsLineSpelled g may_cut line (Err rule) = Unit {0}
IsLineSpelled g may_cut line (Ok said) = (line ≡ join_with_byte 44 (words_of g said)) × IsPlaced may_cut said

spelled_from : (g : Parts) (may_cut : Bool) (line : List ℕ) (r : Result BoundLine BoundRule) → AreWordsOf g may_cut (between_commas line) r → IsLineSpelled g may_cut line r
spelled_from g may_cut line (Err rule) h = tt
spelled_from g may_cut line (Ok said) h = (line_is line (words_of g said) h.0, h.1)

pub line_of-spelled : (g : Parts) (may_cut : Bool) (line : List ℕ) → IsLineSpelled g may_cut line (line_of g may_cut line)
unfolding line_of
line_of-spelled g may_cut line =
    cond_both (is_plain line) (line_of_fields g may_cut (between_commas line)) (Err BadRow) (IsLineSpelled g may_cut line)
    (λ e. spelled_from g may_cut line (line_of_fields g may_cut (between_commas line)) (line_of_fields-words g may_cut (between_commas line))) (λ e. tt)

-- the first line of the bounds part begins with its word
first_fields : (line : List ℕ) → begins_bounds line ≡ true → between_commas line ≡ codes "bounds" ∷ between_commas (drop 7 line)
first_fields line h =
    let whole : line ≡ codes "bounds," ++ drop 7 line = (starts_is Decides-eqb line (codes "bounds,") (begins_bounds line) refl).0 h in
    ap between_commas whole ∙ parts_from-cut [] (codes "bounds") (drop 7 line) refl

ok_or-number : (most : ℕ) (text : List ℕ) (o : Option ℕ) (rule : BoundRule) → IfSome o (λ n. text ≡ decimal n) → IfOk (ok_or o rule) (λ n. text ≡ decimal n)
ok_or-number most text None rule h = tt
ok_or-number most text (Some n) rule h = h

words_same : (word a b : List ℕ) → a ≡ b → word ∷ a ∷ [] ≡ word ∷ b ∷ []
words_same word a b e = ap (λ z. word ∷ z ∷ []) e

if_ok : {X : Type 0} (r : Result X BoundRule) (P Q : X → Type 0) → ((x : X) → P x → Q x) → IfOk r P → IfOk r Q
if_ok (Err rule) P Q f h = tt
if_ok (Ok x) P Q f h = f x h

cost_of_fields-words : (word : List ℕ) (fields : List (List ℕ)) → IfOk (cost_of_fields (word ∷ fields)) (λ n. word ∷ fields ≡ word ∷ decimal n ∷ [])
cost_of_fields-words word [] = tt
cost_of_fields-words word (cost ∷ []) =
    if_ok (ok_or (decimal_within 0 most_cost cost) BadNumber) (λ n. cost ≡ decimal n) (λ n. word ∷ cost ∷ [] ≡ word ∷ decimal n ∷ []) (λ n e. words_same word cost (decimal n) e)
    (ok_or-number most_cost cost (decimal_within 0 most_cost cost) BadNumber (number_is most_cost cost (omega arith)))
cost_of_fields-words word (cost ∷ more ∷ rest) = tt

-- the first line of the bounds part
pub cost_of-spelled : (line : List ℕ) → begins_bounds line ≡ true → IfOk (cost_of line) (λ n. line ≡ join_with_byte 44 (codes "bounds" ∷ decimal n ∷ []))
unfolding cost_of
cost_of-spelled line h =
    cond_both (is_plain line) (cost_of_fields (between_commas line)) (Err BadRow) (λ r. IfOk r (λ n. line ≡ join_with_byte 44 (codes "bounds" ∷ decimal n ∷ [])))
    (λ e. if_ok (cost_of_fields (between_commas line)) (λ n. between_commas line ≡ codes "bounds" ∷ decimal n ∷ []) (λ n. line ≡ join_with_byte 44 (codes "bounds" ∷ decimal n ∷ []))
    (λ n words. line_is line (codes "bounds" ∷ decimal n ∷ []) words)
    (subst (λ z. IfOk (cost_of_fields z) (λ n. z ≡ codes "bounds" ∷ decimal n ∷ [])) (sym (first_fields line h)) (cost_of_fields-words (codes "bounds") (between_commas (drop 7 line)))))
    (λ e. tt)
