-- What is found in rows to which one more was added.
use Rattle.std.proofs.Common.{◌≡◌, ◌∙◌, ap, refl, Bool, true, false, cond, List, [], ◌∷◌, ◌++◌, append-nil, Option, Some, None}
use Rattle.std.specs.Prelude.{if◌then◌else◌, find, is_some, ◌||◌, codes, option_map}
use Rattle.std.specs.Str.{bytes_eq}
use Rattle.clap.specs.Walk.{Row, Text, at_row, has_row, more_values, with_values, without}
use Rattle.clap.specs.declared.builder.value_parser.Reading.{Reading}
use Rattle.clap.specs.declared.builder.value_parser.Reading.TheVariants.{AsWritten}
use Rattle.clap.specs.declared.parser.matches.ValueSource.{ValueSource}
use Rattle.clap.specs.declared.parser.matches.ValueSource.TheVariants.{DefaultValue, CommandLine}

abbrev pub row_at : Text → List Row → Option Row
row_at id rows = find (λ r. bytes_eq r.id id) rows

pub at_end : (id : Text) (change : Row → List Row) (missing rows : List Row) → row_at id rows ≡ None → at_row id change missing rows ≡ rows ++ missing
at_end id change missing [] e = refl
at_end id change missing (r ∷ rs) e = go (bytes_eq r.id id) e (at_end id change missing rs)
  where
    go : (b : Bool) → cond b (Some r) (row_at id rs) ≡ None → (row_at id rs ≡ None → at_row id change missing rs ≡ rs ++ missing)
        → (if b then change r ++ rs else r ∷ at_row id change missing rs) ≡ r ∷ (rs ++ missing)
    go true e next = cc
    go false e next = ap (λ l. r ∷ l) (next e)

pub found_behind : (id : Text) (rows : List Row) (r : Row) → row_at id rows ≡ None → bytes_eq r.id id ≡ true → row_at id (rows ++ r ∷ []) ≡ Some r
found_behind id [] r e is = ap (λ (b : Bool). cond b (Some r) None) is
found_behind id (x ∷ rows) r e is = go (bytes_eq x.id id) e (λ h. found_behind id rows r h is)
  where
    go : (b : Bool) → cond b (Some x) (row_at id rows) ≡ None → (row_at id rows ≡ None → row_at id (rows ++ r ∷ []) ≡ Some r)
        → cond b (Some x) (row_at id (rows ++ r ∷ [])) ≡ Some r
    go true e next = cc
    go false e next = next e

pub other_behind : (id : Text) (rows : List Row) (r : Row) → bytes_eq r.id id ≡ false → row_at id (rows ++ r ∷ []) ≡ row_at id rows
other_behind id [] r is = ap (λ (b : Bool). cond b (Some r) None) is
other_behind id (x ∷ rows) r is = ap (λ (o : Option Row). cond (bytes_eq x.id id) (Some x) o) (other_behind id rows r is)

pub has_row_is : (id : Text) (rows : List Row) → has_row id rows ≡ is_some (row_at id rows)
has_row_is id [] = refl
has_row_is id (r ∷ rows) = go (bytes_eq r.id id) (has_row_is id rows)
  where
    go : (b : Bool) → has_row id rows ≡ is_some (row_at id rows) → (b || has_row id rows) ≡ is_some (cond b (Some r) (row_at id rows))
    go true e = refl
    go false e = e

abbrev pub new_row : Text → Reading → ValueSource → List Text → Row
new_row id how source values = record { id = id; values = values; count = None; source = Some source; reading = how }

-- a first use
pub used_first : (id : Text) (how : Reading) (source : ValueSource) (values : List Text) (rows : List Row) → row_at id rows ≡ None
    → with_values id how source values (without id rows) ≡ rows ++ new_row id how source values ∷ []
used_first id how source values rows e =
    ap (with_values id how source values) (at_end id (λ _. []) [] rows e ∙ append-nil rows)
    ∙ at_end id (more_values source values) (new_row id how source values ∷ []) rows e

abbrev pub value_row : Text → Text → Row
value_row id v = new_row id AsWritten CommandLine (v ∷ [])

abbrev pub flag_row : Bool → Row
flag_row true = value_row (codes "bounds") (codes "true")
flag_row false = new_row (codes "bounds") AsWritten DefaultValue (codes "false" ∷ [])

abbrev pub flag_given : Bool → Option Row
flag_given true = Some (flag_row true)
flag_given false = None

abbrev pub first_place : List Text → Option Text
first_place [] = None
first_place (a ∷ rest) = Some a

abbrev pub second_place : List Text → Option Text
second_place [] = None
second_place (a ∷ rest) = first_place rest

-- the rows of the words so far
pub record Seen (rows : List Row) (places : List Text) (b : Bool) (f u : Option Text) : Type 0 where
  pub net : row_at (codes "net") rows ≡ option_map (value_row (codes "net")) (first_place places)
  pub events : row_at (codes "events") rows ≡ option_map (value_row (codes "events")) (second_place places)
  pub bounds : row_at (codes "bounds") rows ≡ flag_given b
  pub from : row_at (codes "from") rows ≡ option_map (value_row (codes "from")) f
  pub until : row_at (codes "to") rows ≡ option_map (value_row (codes "to")) u

-- the rows at the end
pub record Complete (rows : List Row) (places : List Text) (b : Bool) (f u : Option Text) : Type 0 where
  pub net : row_at (codes "net") rows ≡ option_map (value_row (codes "net")) (first_place places)
  pub events : row_at (codes "events") rows ≡ option_map (value_row (codes "events")) (second_place places)
  pub bounds : row_at (codes "bounds") rows ≡ Some (flag_row b)
  pub from : row_at (codes "from") rows ≡ option_map (value_row (codes "from")) f
  pub until : row_at (codes "to") rows ≡ option_map (value_row (codes "to")) u

pub seen_none : Seen [] [] false None None
seen_none = record { net = refl; events = refl; bounds = refl; from = refl; until = refl }

pub seen_net : (rows : List Row) (b : Bool) (f u : Option Text) (w : Text) → Seen rows [] b f u
    → Seen (rows ++ value_row (codes "net") w ∷ []) (w ∷ []) b f u
seen_net rows b f u w s =
    let r = value_row (codes "net") w in
    record {
      net = found_behind (codes "net") rows r s.net refl;
      events = other_behind (codes "events") rows r refl ∙ s.events;
      bounds = other_behind (codes "bounds") rows r refl ∙ s.bounds;
      from = other_behind (codes "from") rows r refl ∙ s.from;
      until = other_behind (codes "to") rows r refl ∙ s.until;
    }

pub seen_events : (rows : List Row) (a : Text) (b : Bool) (f u : Option Text) (w : Text) → Seen rows (a ∷ []) b f u
    → Seen (rows ++ value_row (codes "events") w ∷ []) (a ∷ w ∷ []) b f u
seen_events rows a b f u w s =
    let r = value_row (codes "events") w in
    record {
      net = other_behind (codes "net") rows r refl ∙ s.net;
      events = found_behind (codes "events") rows r s.events refl;
      bounds = other_behind (codes "bounds") rows r refl ∙ s.bounds;
      from = other_behind (codes "from") rows r refl ∙ s.from;
      until = other_behind (codes "to") rows r refl ∙ s.until;
    }

pub seen_bounds : (rows : List Row) (ps : List Text) (f u : Option Text) → Seen rows ps false f u
    → Seen (rows ++ flag_row true ∷ []) ps true f u
seen_bounds rows ps f u s =
    let r = flag_row true in
    record {
      net = other_behind (codes "net") rows r refl ∙ s.net;
      events = other_behind (codes "events") rows r refl ∙ s.events;
      bounds = found_behind (codes "bounds") rows r s.bounds refl;
      from = other_behind (codes "from") rows r refl ∙ s.from;
      until = other_behind (codes "to") rows r refl ∙ s.until;
    }

pub seen_from : (rows : List Row) (ps : List Text) (b : Bool) (u : Option Text) (v : Text) → Seen rows ps b None u
    → Seen (rows ++ value_row (codes "from") v ∷ []) ps b (Some v) u
seen_from rows ps b u v s =
    let r = value_row (codes "from") v in
    record {
      net = other_behind (codes "net") rows r refl ∙ s.net;
      events = other_behind (codes "events") rows r refl ∙ s.events;
      bounds = other_behind (codes "bounds") rows r refl ∙ s.bounds;
      from = found_behind (codes "from") rows r s.from refl;
      until = other_behind (codes "to") rows r refl ∙ s.until;
    }

pub seen_until : (rows : List Row) (ps : List Text) (b : Bool) (f : Option Text) (v : Text) → Seen rows ps b f None
    → Seen (rows ++ value_row (codes "to") v ∷ []) ps b f (Some v)
seen_until rows ps b f v s =
    let r = value_row (codes "to") v in
    record {
      net = other_behind (codes "net") rows r refl ∙ s.net;
      events = other_behind (codes "events") rows r refl ∙ s.events;
      bounds = other_behind (codes "bounds") rows r refl ∙ s.bounds;
      from = other_behind (codes "from") rows r refl ∙ s.from;
      until = found_behind (codes "to") rows r s.until refl;
    }

-- the rows with the flag's, which by default is not set
unfoldable pub with_flag : Bool → List Row → List Row
with_flag true rows = rows
with_flag false rows = rows ++ flag_row false ∷ []

pub complete : (rows : List Row) (ps : List Text) (b : Bool) (f u : Option Text) → Seen rows ps b f u → Complete (with_flag b rows) ps b f u
unfolding with_flag
complete rows ps true f u s = record { net = s.net; events = s.events; bounds = s.bounds; from = s.from; until = s.until }
complete rows ps false f u s =
    let r = flag_row false in
    record {
      net = other_behind (codes "net") rows r refl ∙ s.net;
      events = other_behind (codes "events") rows r refl ∙ s.events;
      bounds = found_behind (codes "bounds") rows r s.bounds refl;
      from = other_behind (codes "from") rows r refl ∙ s.from;
      until = other_behind (codes "to") rows r refl ∙ s.until;
    }
