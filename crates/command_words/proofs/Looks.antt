-- What a word looks like to the command line and to our forms.
use Rattle.std.proofs.Common.{arith, ◌≡◌, ◌∙◌, ap, sym, refl, subst, ℕ, suc, ◌+◌, Bool, true, false, List, [], ◌∷◌, ◌++◌, take, drop, Option, Some, None, true≢false}
use Rattle.std.specs.Prelude.{if◌then◌else◌, cond, codes, ◌==◌, ◌||◌, not}
use Rattle.std.specs.Str.{bytes_eq, chars, encode_utf8_all}
use Rattle.std.specs.Char.{encode_utf8}
use Rattle.std.specs.List.{position_or_len, before_first, after_first}
use Rattle.std.proofs.lemmas.Slice.Eq.{bytes_eq-Decides}
use borrow.Author.Tests.{eqb-true}
use lib.ListN.{take-append-drop}
use Rattle.clap.specs.Lexer.{has_byte, long_of, short_of}
use Rattle.clap.specs.Walk.{Text}
use Rattle.event_rules.specs.Stamps.{stamp_of}
use Rattle.command_words.specs.Forms.{Place, Bounds, From, To, Stray, part_of, takes_next}

-- the text is that of its characters
abbrev pub Spelled : Text → Type 0
Spelled w = encode_utf8_all (chars w) ≡ w

pub dash_no_stamp : (t : Text) → stamp_of (45 ∷ t) ≡ None
unfolding stamp_of
dash_no_stamp t = refl

-- a word that is a place
pub record Plain (w : Text) : Type 0 where
  pub dashes : bytes_eq w (codes "--") ≡ false
  pub long : long_of w ≡ None
  pub short : short_of w ≡ None
  pub next : takes_next w ≡ false
  pub part : part_of w ≡ Place w

-- an option by a name that there isn't
pub record Strange (w : Text) : Type 0 where
  pub dashes : bytes_eq w (codes "--") ≡ false
  pub name : Text
  pub value : Option Text
  pub long : long_of w ≡ Some (name, value)
  pub no_bounds : bytes_eq (codes "bounds") name ≡ false
  pub no_from : bytes_eq (codes "from") name ≡ false
  pub no_to : bytes_eq (codes "to") name ≡ false
  pub next : takes_next w ≡ false
  pub part : part_of w ≡ Stray
  pub stamp : stamp_of w ≡ None

-- a word that begins with `-` and has more than that byte
pub data Dashed (w : Text) : Type 0 where
  dashes : w ≡ codes "--" → Dashed w
  bounds : w ≡ codes "--bounds" → Dashed w
  bounds_with : (v : Text) → w ≡ codes "--bounds=" ++ v → Dashed w
  from : w ≡ codes "--from" → Dashed w
  from_with : (v : Text) → w ≡ codes "--from=" ++ v → Dashed w
  to : w ≡ codes "--to" → Dashed w
  to_with : (v : Text) → w ≡ codes "--to=" ++ v → Dashed w
  strange : Strange w → Dashed w
  short : (x : ℕ) (xs : Text) (c : ℕ) (cs : List ℕ) → w ≡ 45 ∷ x ∷ xs → (x == 45) ≡ false → chars (x ∷ xs) ≡ c ∷ cs → Dashed w

pub data Look (w : Text) : Type 0 where
  dashed : Dashed w → Look w
  place : Plain w → Look w

pub dashed_no_stamp : (w : Text) → Dashed w → stamp_of w ≡ None
dashed_no_stamp w (dashes e) = ap stamp_of e ∙ dash_no_stamp (45 ∷ [])
dashed_no_stamp w (bounds e) = ap stamp_of e ∙ dash_no_stamp (codes "-bounds")
dashed_no_stamp w (bounds_with v e) = ap stamp_of e ∙ dash_no_stamp (codes "-bounds=" ++ v)
dashed_no_stamp w (from e) = ap stamp_of e ∙ dash_no_stamp (codes "-from")
dashed_no_stamp w (from_with v e) = ap stamp_of e ∙ dash_no_stamp (codes "-from=" ++ v)
dashed_no_stamp w (to e) = ap stamp_of e ∙ dash_no_stamp (codes "-to")
dashed_no_stamp w (to_with v e) = ap stamp_of e ∙ dash_no_stamp (codes "-to=" ++ v)
dashed_no_stamp w (strange s) = s.stamp
dashed_no_stamp w (short x xs c cs e other is) = ap stamp_of e ∙ dash_no_stamp (x ∷ xs)

-- each text is that of its characters
abbrev pub AllSpelled : List Text → Type 0
AllSpelled [] = Unit {0}
AllSpelled (w ∷ words) = Spelled w × AllSpelled words

-- ---- a name and a value

abbrev is_equals : ℕ → Bool
is_equals x = x == 61

abbrev behind : Option Text → Text
behind None = []
behind (Some v) = 61 ∷ v

together : (t : Text) → t ≡ before_first is_equals t ++ behind (if has_byte 61 t then Some (after_first is_equals t) else None)
together [] = refl
together (x ∷ xs) = go (is_equals x) refl (together xs)
  where
    more : (h : Bool) (n : ℕ) → xs ≡ take n xs ++ behind (if h then Some (drop (n + 1) xs) else None)
        → x ∷ xs ≡ take (1 + n) (x ∷ xs) ++ behind (if h then Some (drop (1 + n + 1) (x ∷ xs)) else None)
    more h n e =
        let a : suc n ≡ 1 + n = omega arith in
        let b : suc (n + 1) ≡ 1 + n + 1 = omega arith in
        ap (λ (l : Text). x ∷ l) e
        ∙ ap (λ (m : ℕ). take m (x ∷ xs) ++ behind (if h then Some (drop (suc (n + 1)) (x ∷ xs)) else None)) a
        ∙ ap (λ (m : ℕ). take (1 + n) (x ∷ xs) ++ behind (if h then Some (drop m (x ∷ xs)) else None)) b

    go : (b : Bool) → is_equals x ≡ b → xs ≡ before_first is_equals xs ++ behind (if has_byte 61 xs then Some (after_first is_equals xs) else None)
        → x ∷ xs ≡ take (cond (not b) (1 + position_or_len is_equals xs) 0) (x ∷ xs)
        ++ behind (if b || has_byte 61 xs then Some (drop (cond (not b) (1 + position_or_len is_equals xs) 0 + 1) (x ∷ xs)) else None)
    go true is e = ap (λ (y : ℕ). y ∷ xs) (eqb-true x 61 is)
    go false is e = more (has_byte 61 xs) (position_or_len is_equals xs) e

-- ---- other words

abbrev first_name : Option (Text × Option Text) → Text
first_name None = []
first_name (Some p) = p.0

clash : (n m : Text) → n ≡ m → bytes_eq m n ≡ false → ⊥
clash n m same other = true≢false (sym ((bytes_eq-Decides m n).1 (sym same)) ∙ other)

differs : (w u n : Text) (v : Option Text) (m : Text) (x : Option Text) → long_of w ≡ Some (n, v) → long_of u ≡ Some (m, x) → bytes_eq m n ≡ false
    → bytes_eq w u ≡ false
differs w u n v m x lw lu other = go (bytes_eq w u) refl
  where
    go : (b : Bool) → bytes_eq w u ≡ b → b ≡ false
    go false e = refl
    go true e = absurd (clash n m (ap first_name (sym lw ∙ ap long_of ((bytes_eq-Decides w u).0 e) ∙ lu)) other)

differs_from_start : (k : ℕ) (w u n : Text) (v : Option Text) (m : Text) → long_of w ≡ Some (n, v) → ((r : Text) → long_of (u ++ r) ≡ Some (m, Some r)) → bytes_eq m n ≡ false
    → bytes_eq (take k w) u ≡ false
differs_from_start k w u n v m lw lu other = go (bytes_eq (take k w) u) refl
  where
    go : (b : Bool) → bytes_eq (take k w) u ≡ b → b ≡ false
    go false e = refl
    go true e =
        let whole : w ≡ u ++ drop k w = sym (take-append-drop k w) ∙ ap (λ (l : Text). l ++ drop k w) ((bytes_eq-Decides (take k w) u).0 e) in
        absurd (clash n m (ap first_name (sym lw ∙ ap long_of whole ∙ lu (drop k w))) other)

no_option : (b f u : Bool) (x y : Text) → b ≡ false → f ≡ false → u ≡ false
    → (if b then Bounds else (if f then From x else (if u then To y else Stray))) ≡ Stray
no_option false false false x y p q r = refl
no_option true f u x y p q r = absurd (true≢false p)
no_option false true u x y p q r = absurd (true≢false q)
no_option false false true x y p q r = absurd (true≢false r)

no_next : (f u : Bool) → f ≡ false → u ≡ false → (f || u) ≡ false
no_next false false p q = refl
no_next true u p q = absurd (true≢false p)
no_next false true p q = absurd (true≢false q)

named_bounds : (t : Text) (v : Option Text) → t ≡ codes "bounds" ++ behind v → Dashed (45 ∷ 45 ∷ t)
named_bounds t None e = bounds (ap (λ (l : Text). 45 ∷ 45 ∷ l) e)
named_bounds t (Some v) e = bounds_with v (ap (λ (l : Text). 45 ∷ 45 ∷ l) e)

named_from : (t : Text) (v : Option Text) → t ≡ codes "from" ++ behind v → Dashed (45 ∷ 45 ∷ t)
named_from t None e = from (ap (λ (l : Text). 45 ∷ 45 ∷ l) e)
named_from t (Some v) e = from_with v (ap (λ (l : Text). 45 ∷ 45 ∷ l) e)

named_to : (t : Text) (v : Option Text) → t ≡ codes "to" ++ behind v → Dashed (45 ∷ 45 ∷ t)
named_to t None e = to (ap (λ (l : Text). 45 ∷ 45 ∷ l) e)
named_to t (Some v) e = to_with v (ap (λ (l : Text). 45 ∷ 45 ∷ l) e)

strange_word : (y : ℕ) (ys n : Text) (v : Option Text) → long_of (45 ∷ 45 ∷ y ∷ ys) ≡ Some (n, v)
    → bytes_eq (codes "bounds") n ≡ false → bytes_eq (codes "from") n ≡ false → bytes_eq (codes "to") n ≡ false → Strange (45 ∷ 45 ∷ y ∷ ys)
strange_word y ys n v long b f u =
    let w = 45 ∷ 45 ∷ y ∷ ys in
    record {
      dashes = refl;
      name = n;
      value = v;
      long = long;
      no_bounds = b;
      no_from = f;
      no_to = u;
      next = no_next (bytes_eq w (codes "--from")) (bytes_eq w (codes "--to"))
          (differs w (codes "--from") n v (codes "from") None long refl f) (differs w (codes "--to") n v (codes "to") None long refl u);
      part = no_option (bytes_eq w (codes "--bounds")) (bytes_eq (take 7 w) (codes "--from=")) (bytes_eq (take 5 w) (codes "--to=")) (drop 7 w) (drop 5 w)
          (differs w (codes "--bounds") n v (codes "bounds") None long refl b)
          (differs_from_start 7 w (codes "--from=") n v (codes "from") long (λ r. refl) f)
          (differs_from_start 5 w (codes "--to=") n v (codes "to") long (λ r. refl) u);
      stamp = dash_no_stamp (45 ∷ y ∷ ys);
    }

option_named : (y : ℕ) (ys n : Text) (v : Option Text) → long_of (45 ∷ 45 ∷ y ∷ ys) ≡ Some (n, v) → y ∷ ys ≡ n ++ behind v → Dashed (45 ∷ 45 ∷ y ∷ ys)
option_named y ys n v long is = go (bytes_eq (codes "bounds") n) (bytes_eq (codes "from") n) (bytes_eq (codes "to") n) refl refl refl
  where
    go : (b f u : Bool) → bytes_eq (codes "bounds") n ≡ b → bytes_eq (codes "from") n ≡ f → bytes_eq (codes "to") n ≡ u → Dashed (45 ∷ 45 ∷ y ∷ ys)
    go true f u p q r = named_bounds (y ∷ ys) v (is ∙ ap (λ (l : Text). l ++ behind v) (sym ((bytes_eq-Decides (codes "bounds") n).0 p)))
    go false true u p q r = named_from (y ∷ ys) v (is ∙ ap (λ (l : Text). l ++ behind v) (sym ((bytes_eq-Decides (codes "from") n).0 q)))
    go false false true p q r = named_to (y ∷ ys) v (is ∙ ap (λ (l : Text). l ++ behind v) (sym ((bytes_eq-Decides (codes "to") n).0 r)))
    go false false false p q r = strange (strange_word y ys n v long p q r)

look_long : (t : Text) → Dashed (45 ∷ 45 ∷ t)
look_long [] = dashes refl
look_long (y ∷ ys) = option_named y ys (before_first is_equals (y ∷ ys)) (if has_byte 61 (y ∷ ys) then Some (after_first is_equals (y ∷ ys)) else None) refl (together (y ∷ ys))

some_char : (x : ℕ) (xs : Text) → Spelled (45 ∷ x ∷ xs) → (x == 45) ≡ false → Dashed (45 ∷ x ∷ xs)
unfolding chars encode_utf8
some_char x xs e other = go (chars (x ∷ xs)) refl e
  where
    go : (cs : List ℕ) → chars (x ∷ xs) ≡ cs → 45 ∷ encode_utf8_all (chars (x ∷ xs)) ≡ 45 ∷ x ∷ xs → Dashed (45 ∷ x ∷ xs)
    go [] is e = let none : 45 ∷ [] ≡ 45 ∷ x ∷ xs = ap (λ (l : List ℕ). 45 ∷ encode_utf8_all l) (sym is) ∙ e in cc
    go (c ∷ cs) is e = short x xs c cs refl other is

look_option : (t : Text) → Spelled (45 ∷ t) → Look (45 ∷ t)
look_option [] e = place (record { dashes = refl; long = refl; short = refl; next = refl; part = refl })
look_option (x ∷ xs) e = go (x == 45) refl
  where
    go : (b : Bool) → (x == 45) ≡ b → Look (45 ∷ x ∷ xs)
    go true is = dashed (subst (λ (y : ℕ). Dashed (45 ∷ y ∷ xs)) (sym (eqb-true x 45 is)) (look_long xs))
    go false is = dashed (some_char x xs e is)

pub look : (w : Text) → Spelled w → Look w
look [] e = place (record { dashes = refl; long = refl; short = refl; next = refl; part = refl })
look (x ∷ xs) e = go (x == 45) refl
  where
    go : (b : Bool) → (x == 45) ≡ b → Look (x ∷ xs)
    go true is = subst (λ (y : ℕ). Spelled (y ∷ xs) → Look (y ∷ xs)) (sym (eqb-true x 45 is)) (look_option xs) e
    go false is = place (record { dashes = rw is refl; long = rw is refl; short = rw is refl; next = rw is refl; part = rw is refl })
