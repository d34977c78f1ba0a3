-- The lines of a storm, piece by piece.
use Rattle.std.proofs.Common.{◌≡◌, ℕ, ◌+◌, ◌*◌, refl, sym, ap, ◌∙◌, add-one, List, [], ◌∷◌, ◌++◌, append_assoc}
use Rattle.std.specs.List.{join_with_byte}
use Rattle.event_rules.specs.Rows.{row}
use Rattle.history_rules.specs.StampTexts.{stamp_text}
use Rattle.grid_maker.specs.Draws.{next_state, drawn}
use Rattle.grid_maker.specs.declared.happenings.Happening.{Happening}
use Rattle.grid_maker.specs.declared.happenings.Happening.TheVariants.{Gasp, Call, PingDown, PingUp, Powerup, Restore, ConfirmOk, ConfirmOpen, ConfirmClear, OpenLine, CloseLine, Clock, CloseTie, OpenTie}
use Rattle.grid_maker.specs.Happenings.{happening, happening_words}
use Rattle.grid_maker.specs.EventText.{event_row, event_after, event_line, state_before, second_of}
use Rattle.grid_maker.proofs.Seconds.{second_is}

-- a word in front of those of what happens
pub words_behind : (s : List ℕ) (f j k : ℕ) (h : Happening) → join_with_byte 44 (s ∷ happening_words f j k h) ≡ s ++ 44 ∷ join_with_byte 44 (happening_words f j k h)
words_behind s f j k Gasp = refl
words_behind s f j k Call = refl
words_behind s f j k PingDown = refl
words_behind s f j k PingUp = refl
words_behind s f j k Powerup = refl
words_behind s f j k Restore = refl
words_behind s f j k ConfirmOk = refl
words_behind s f j k ConfirmOpen = refl
words_behind s f j k ConfirmClear = refl
words_behind s f j k OpenLine = refl
words_behind s f j k CloseLine = refl
words_behind s f j k Clock = refl
words_behind s f j k CloseTie = refl
words_behind s f j k OpenTie = refl

three : (t x y z : List ℕ) → ((t ++ x) ++ y) ++ z ≡ t ++ ((x ++ y) ++ z)
three t x y z = simp append_assoc

pub event_pieces : (n i f j k r : ℕ) (h : Happening) (s t0 t1 t2 t3 : List ℕ) → s ≡ stamp_text (1_704_067_200 + 7 * i) → h ≡ happening n f k r
    → t1 ≡ t0 ++ s → t2 ≡ t1 ++ 44 ∷ join_with_byte 44 (happening_words f j k h) → t3 ≡ t2 ++ 10 ∷ [] → t3 ≡ t0 ++ event_row n i f j k r
unfolding event_row
event_pieces n i f j k r h s t0 t1 t2 t3 s_is h_is e1 e2 e3 =
    let words = 44 ∷ join_with_byte 44 (happening_words f j k h) in
    e3
    ∙ ap (λ t. t ++ 10 ∷ []) (e2 ∙ ap (λ t. t ++ words) e1)
    ∙ three t0 s words (10 ∷ [])
    ∙ ap (λ z. t0 ++ (z ++ 10 ∷ [])) (sym (words_behind s f j k h))
    ∙ ap (λ s. t0 ++ row (s ∷ happening_words f j k h)) (s_is ∙ ap stamp_text (sym (second_is i)))
    ∙ ap (λ h. t0 ++ row (stamp_text (second_of i) ∷ happening_words f j k h)) h_is

-- the line of what was drawn from the state before it on
pub line_drawn : (n i x f j k r : ℕ) → x ≡ state_before n i → f ≡ drawn (next_state x) n → j ≡ drawn (next_state (next_state x)) 50
    → k ≡ drawn (next_state (next_state (next_state x))) 20 → r ≡ drawn (next_state (next_state (next_state (next_state x)))) 100
    → event_row n i f j k r ≡ event_line n i
unfolding event_line event_after
line_drawn n i x f j k r x_is f_is j_is k_is r_is = rw (f_is, j_is, k_is, r_is, x_is) refl

pub state_more : (n i x : ℕ) → x ≡ state_before n i → next_state (next_state (next_state (next_state x))) ≡ state_before n (i + 1)
unfolding state_before
state_more n i x x_is = ap (λ x. next_state (next_state (next_state (next_state x)))) x_is ∙ sym (ap (state_before n) (add-one i))
