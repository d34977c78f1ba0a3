-- What a line of the bounds part says is of the network and within the ranges of numbers.
use Rattle.std.proofs.Common.{◌<◌, ◌≤◌, ◌&&◌, Bool, ℕ, List, [], ◌∷◌, length, Option, Some, None, Result, Ok, Err}
use Rattle.std.specs.Prelude.{ok_or, position, IfSome, IfOk, codes, nat_le, nat_lt, cond}
use Rattle.std.specs.List.{position_or_len}
use Rattle.std.specs.Str.{bytes_eq}
use Rattle.std.proofs.lemmas.Bool.{cond_both, and_parts, leb-true, ltb-true}
use Rattle.grid_model.specs.Parts.{Parts}
use Rattle.grid_model.specs.Name.{is_name}
use Rattle.grid_model.specs.Names.{name_eq}
use Rattle.grid_model.specs.declared.parts.NodeId.{NodeId}
use Rattle.grid_model.specs.declared.parts.DeviceId.{DeviceId}
use Rattle.event_rules.specs.Fields.{between_commas}
use Rattle.event_rules.specs.Decimals.{is_decimal, value_of, decimal_within}
use Rattle.bound_table.specs.declared.bounds.BoundRule.{BoundRule}
use Rattle.bound_table.specs.declared.bounds.BoundRule.TheVariants.{BadRow, BadName, BadNumber}
use Rattle.bound_table.specs.declared.bound_line.BoundLine.{BoundLine}
use Rattle.bound_table.specs.declared.bound_line.BoundLine.TheVariants.{Cut, Row, End}
use Rattle.bound_table.specs.Sound.{most_cost, most_depth, IsRowOf}
use Rattle.bound_table.specs.BoundLines.{is_plain, is_parent, cost_of_fields, cost_of, device_by, device_of, node_by, node_of, cut_with, cut_of, parent_with, parent_of, row_with, row_by, row_of, end_of, line_of_fields, line_of}

-- a device of the network
abbrev IsDeviceOf : Parts → DeviceId → Type 0
IsDeviceOf g d = d.0 < length g.devices

abbrev pub IsLineOf : Parts → Result BoundLine BoundRule → Type 0
IsLineOf g (Err rule) = Unit {0}
IsLineOf g (Ok (Cut d)) = d.0 < length g.devices
IsLineOf g (Ok (Row r)) = IsRowOf g r
IsLineOf g (Ok End) = Unit {0}

-- a first place is within the list
position-within : {X : Type 0} (p : X → Bool) (xs : List X) → IfSome (position p xs) (λ k. k < length xs)
position-within p xs =
    cond_both (nat_lt (position_or_len p xs) (length xs)) (Some (position_or_len p xs)) None (λ o. IfSome o (λ k. k < length xs))
    (λ e. ltb-true (position_or_len p xs) (length xs) e) (λ e. tt)

-- a decimal is at most its bound
decimal_within-le : (most : ℕ) (text : List ℕ) → IfSome (decimal_within 0 most text) (λ n. n ≤ most)
decimal_within-le most text =
    cond_both (is_decimal text && (nat_le 0 (value_of text) && nat_le (value_of text) most)) (Some (value_of text)) None (λ o. IfSome o (λ n. n ≤ most))
    (λ e. leb-true (value_of text) most (and_parts (nat_le 0 (value_of text)) (nat_le (value_of text) most) (and_parts (is_decimal text) (nat_le 0 (value_of text) && nat_le (value_of text) most) e).1).1)
    (λ e. tt)

ok_or-le : (most : ℕ) (o : Option ℕ) (rule : BoundRule) → IfSome o (λ n. n ≤ most) → IfOk (ok_or o rule) (λ n. n ≤ most)
ok_or-le most None rule h = tt
ok_or-le most (Some n) rule h = h

cost_of_fields-le : (fields : List (List ℕ)) → IfOk (cost_of_fields fields) (λ n. n ≤ most_cost)
cost_of_fields-le [] = tt
cost_of_fields-le (word ∷ []) = tt
cost_of_fields-le (word ∷ cost ∷ []) = ok_or-le most_cost (decimal_within 0 most_cost cost) BadNumber (decimal_within-le most_cost cost)
cost_of_fields-le (word ∷ cost ∷ more ∷ rest) = tt

-- the cost of a first line
pub cost_of-le : (line : List ℕ) → IfOk (cost_of line) (λ n. n ≤ most_cost)
unfolding cost_of
cost_of-le line =
    cond_both (is_plain line) (cost_of_fields (between_commas line)) (Err BadRow) (λ r. IfOk r (λ n. n ≤ most_cost))
    (λ e. cost_of_fields-le (between_commas line)) (λ e. tt)

device_by-of : (g : Parts) (o : Option ℕ) → IfSome o (λ k. k < length g.devices) → IfOk (device_by o) (IsDeviceOf g)
device_by-of g None h = tt
device_by-of g (Some d) h = h

device_of-of : (g : Parts) (name : List ℕ) → IfOk (device_of g name) (IsDeviceOf g)
device_of-of g name = device_by-of g (position (λ d. name_eq name d.name) g.devices) (position-within (λ d. name_eq name d.name) g.devices)

node_by-of : (g : Parts) (o : Option ℕ) → IfSome o (λ k. k < length g.nodes) → IfOk (node_by o) (λ n. n.0 < length g.nodes)
node_by-of g None h = tt
node_by-of g (Some n) h = h

node_of-of : (g : Parts) (name : List ℕ) → IfOk (node_of g name) (λ n. n.0 < length g.nodes)
node_of-of g name = node_by-of g (position (name_eq name) g.nodes) (position-within (name_eq name) g.nodes)

cut_with-of : (g : Parts) (r : Result DeviceId BoundRule) → IfOk r (IsDeviceOf g) → IsLineOf g (cut_with r)
cut_with-of g (Err rule) h = tt
cut_with-of g (Ok d) h = h

cut_of-of : (g : Parts) (fields : List (List ℕ)) → IsLineOf g (cut_of g fields)
cut_of-of g [] = tt
cut_of-of g (device ∷ []) =
    cond_both (is_name device) (cut_with (device_of g device)) (Err BadName) (IsLineOf g)
    (λ e. cut_with-of g (device_of g device) (device_of-of g device)) (λ e. tt)
cut_of-of g (device ∷ more ∷ rest) = tt

parent_with-of : (g : Parts) (r : Result DeviceId BoundRule) → IfOk r (IsDeviceOf g) → IfOk (parent_with r) (λ p. IfSome p (IsDeviceOf g))
parent_with-of g (Err rule) h = tt
parent_with-of g (Ok d) h = h

parent_of-of : (g : Parts) (word : List ℕ) → IfOk (parent_of g word) (λ p. IfSome p (IsDeviceOf g))
parent_of-of g word =
    cond_both (bytes_eq word (codes "-")) (Ok None) (parent_with (device_of g word)) (λ r. IfOk r (λ p. IfSome p (IsDeviceOf g)))
    (λ e. tt) (λ e. parent_with-of g (device_of g word) (device_of-of g word))

row_with-of : (g : Parts) (node : Result NodeId BoundRule) (parent : Result (Option DeviceId) BoundRule) (depth live dark : ℕ) → IfOk node (λ n. n.0 < length g.nodes) → IfOk parent (λ p. IfSome p (IsDeviceOf g)) → depth ≤ most_depth → live ≤ most_cost → dark ≤ most_cost → IsLineOf g (row_with node parent depth live dark)
row_with-of g (Err rule) parent depth live dark hn hp hd hl hk = tt
row_with-of g (Ok node) (Err rule) depth live dark hn hp hd hl hk = tt
row_with-of g (Ok node) (Ok parent) depth live dark hn hp hd hl hk = record { node = hn; parent = hp; depth = hd; live = hl; dark = hk }

row_by-of : (g : Parts) (node : Result NodeId BoundRule) (parent : Result (Option DeviceId) BoundRule) (depth live dark : Option ℕ) → IfOk node (λ n. n.0 < length g.nodes) → IfOk parent (λ p. IfSome p (IsDeviceOf g)) → IfSome depth (λ n. n ≤ most_depth) → IfSome live (λ n. n ≤ most_cost) → IfSome dark (λ n. n ≤ most_cost) → IsLineOf g (row_by node parent depth live dark)
row_by-of g node parent None live dark hn hp hd hl hk = tt
row_by-of g node parent (Some depth) None dark hn hp hd hl hk = tt
row_by-of g node parent (Some depth) (Some live) None hn hp hd hl hk = tt
row_by-of g node parent (Some depth) (Some live) (Some dark) hn hp hd hl hk = row_with-of g node parent depth live dark hn hp hd hl hk

row_of-of : (g : Parts) (fields : List (List ℕ)) → IsLineOf g (row_of g fields)
row_of-of g [] = tt
row_of-of g (node ∷ []) = tt
row_of-of g (node ∷ parent ∷ []) = tt
row_of-of g (node ∷ parent ∷ depth ∷ []) = tt
row_of-of g (node ∷ parent ∷ depth ∷ live ∷ []) = tt
row_of-of g (node ∷ parent ∷ depth ∷ live ∷ dark ∷ []) =
    cond_both (is_name node && is_parent parent)
    (row_by (node_of g node) (parent_of g parent) (decimal_within 0 most_depth depth) (decimal_within 0 most_cost live) (decimal_within 0 most_cost dark)) (Err BadName) (IsLineOf g)
    (λ e. row_by-of g (node_of g node) (parent_of g parent) (decimal_within 0 most_depth depth) (decimal_within 0 most_cost live) (decimal_within 0 most_cost dark)
    (node_of-of g node) (parent_of-of g parent) (decimal_within-le most_depth depth) (decimal_within-le most_cost live) (decimal_within-le most_cost dark))
    (λ e. tt)
row_of-of g (node ∷ parent ∷ depth ∷ live ∷ dark ∷ more ∷ rest) = tt

end_of-of : (g : Parts) (fields : List (List ℕ)) → IsLineOf g (end_of fields)
end_of-of g [] = tt
end_of-of g (more ∷ rest) = tt

line_of_fields-of : (g : Parts) (may_cut : Bool) (fields : List (List ℕ)) → IsLineOf g (line_of_fields g may_cut fields)
line_of_fields-of g may_cut [] = tt
line_of_fields-of g may_cut (word ∷ fields) =
    cond_both (bytes_eq word (codes "cut") && may_cut) (cut_of g fields)
    (cond (bytes_eq word (codes "row")) (row_of g fields) (cond (bytes_eq word (codes "endbounds")) (end_of fields) (Err BadRow))) (IsLineOf g)
    (λ e. cut_of-of g fields)
    (λ e. cond_both (bytes_eq word (codes "row")) (row_of g fields) (cond (bytes_eq word (codes "endbounds")) (end_of fields) (Err BadRow)) (IsLineOf g)
    (λ e2. row_of-of g fields)
    (λ e2. cond_both (bytes_eq word (codes "endbounds")) (end_of fields) (Err BadRow) (IsLineOf g) (λ e3. end_of-of g fields) (λ e3. tt)))

-- a later line
pub line_of-of : (g : Parts) (may_cut : Bool) (line : List ℕ) → IsLineOf g (line_of g may_cut line)
unfolding line_of
line_of-of g may_cut line =
    cond_both (is_plain line) (line_of_fields g may_cut (between_commas line)) (Err BadRow) (IsLineOf g)
    (λ e. line_of_fields-of g may_cut (between_commas line)) (λ e. tt)
