-- The lines of a block, taken one after the other.
use Rattle.std.proofs.Common.{◌≡◌, ℕ, refl, sym, ap, ◌∙◌, subst, List, [], ◌∷◌, ◌++◌, append_assoc, append-nil, Option, Some, None, Result}
use Rattle.std.specs.Prelude.{MatchOption}
use Rattle.grid_model.specs.Parts.{Parts}
use Rattle.grid_model.specs.declared.history.Event.{Event}
use Rattle.line_text.specs.BlockReading.{AreLeft}
use Rattle.line_text.specs.declared.block_reader.BlockReader.{BlockReader}
use Rattle.event_reader.specs.Reading.{IsReading}
use Rattle.event_reader.specs.declared.refusal.ReadRefusal.{ReadRefusal}
use Rattle.outage_engine.specs.Engined.{Engined}
use Rattle.event_run.specs.declared.taken.Taken.{Taken}
use Rattle.event_run.specs.declared.reading.EventsStop.{EventsStop}
use Rattle.event_run.specs.Pieces.{HasPut, HasWritten, StopsAmong}
use Rattle.event_run.proofs.PutLines.{put_of, stops_more}

-- of all lines a front was taken, and the reader has the rest left
pub record HasTakenFront (sofar all : List (List ℕ)) (before now : Option (List ℕ)) (reader : BlockReader) (taken : Taken) (e : Engined) : Type 0 where
  pub front : List (List ℕ)
  pub rest : List (List ℕ)
  pub are : all ≡ front ++ rest
  pub left : AreLeft reader rest
  pub put : HasPut (sofar ++ front) before now taken e

pub front_none : (sofar all : List (List ℕ)) (before now : Option (List ℕ)) (g : Parts) (reader : BlockReader) (taken : Taken) (e : Engined) → AreLeft reader all → HasWritten sofar before now g taken e
    → HasTakenFront sofar all before now reader taken e
front_none sofar all before now g reader taken e left has = record {
  front = [];
  rest = all;
  are = refl;
  left = left;
  put = subst (λ ls. HasPut ls before now taken e) (sym (append-nil sofar)) (put_of sofar before now g taken e has);
}

-- the next line, where something is read of it
pub record HasNext (rest : List (List ℕ)) (g : Parts) (read : Result (Option Event) ReadRefusal) : Type 0 where
  pub line : List ℕ
  pub behind : List (List ℕ)
  pub are : rest ≡ line ∷ behind
  pub reading : IsReading g line read

pub next_of : (reader : BlockReader) (g : Parts) (found : Option (Result (Option Event) ReadRefusal))
    → (AreLeft reader [] → found ≡ None) → ((line : List ℕ) (rest : List (List ℕ)) → AreLeft reader (line ∷ rest) → MatchOption found ⊥ (λ read. IsReading g line read))
    → (rest : List (List ℕ)) (read : Result (Option Event) ReadRefusal) → AreLeft reader rest → found ≡ Some read → HasNext rest g read
next_of reader g found end reads [] read left is = let none = end left in cc
next_of reader g found end reads (line ∷ behind) read left is = record {
  line = line;
  behind = behind;
  are = refl;
  reading = subst (λ f. MatchOption f ⊥ (λ r. IsReading g line r)) is (reads line behind left);
}

-- behind the last line nothing is left
pub none_of : (reader : BlockReader) (g : Parts) (found : Option (Result (Option Event) ReadRefusal))
    → ((line : List ℕ) (rest : List (List ℕ)) → AreLeft reader (line ∷ rest) → MatchOption found ⊥ (λ read. IsReading g line read)) → ((read : Result (Option Event) ReadRefusal) → found ≡ Some read → ⊥)
    → (rest : List (List ℕ)) → AreLeft reader rest → rest ≡ []
none_of reader g found reads none [] left = refl
none_of reader g None reads none (line ∷ behind) left = absurd (reads line behind left)
none_of reader g (Some read) reads none (line ∷ behind) left = absurd (none read refl)

-- one more line was taken
pub front_more : (sofar all : List (List ℕ)) (before now later : Option (List ℕ)) (reader new : BlockReader) (taken changed : Taken) (e more : Engined) (g : Parts) (read : Result (Option Event) ReadRefusal)
    → (had : HasTakenFront sofar all before now reader taken e) → HasNext had.rest g read
    → ((line : List ℕ) (rest : List (List ℕ)) → AreLeft reader (line ∷ rest) → AreLeft new rest)
    → ((lines : List (List ℕ)) (line : List ℕ) → IsReading g line read → HasPut lines before now taken e → HasPut (lines ++ line ∷ []) before later changed more)
    → HasTakenFront sofar all before later new changed more
front_more sofar all before now later reader new taken changed e more g read had next leaves takes = record {
  front = had.front ++ next.line ∷ [];
  rest = next.behind;
  are = had.are ∙ ap (λ z. had.front ++ z) next.are ∙ sym (append_assoc had.front (next.line ∷ []) next.behind);
  left = leaves next.line next.behind (subst (AreLeft reader) next.are had.left);
  put = subst (λ ls. HasPut ls before later changed more) (append_assoc sofar had.front (next.line ∷ [])) (takes (sofar ++ had.front) next.line next.reading had.put);
}

-- the run stops at the next line
pub front_stops : (sofar all : List (List ℕ)) (before now later : Option (List ℕ)) (reader : BlockReader) (taken : Taken) (e : Engined) (g h : Parts) (read : Result (Option Event) ReadRefusal) (stop : EventsStop)
    → (had : HasTakenFront sofar all before now reader taken e) → HasNext had.rest g read
    → ((lines : List (List ℕ)) (line : List ℕ) → IsReading g line read → HasPut lines before now taken e → StopsAmong (lines ++ line ∷ []) before later h stop)
    → StopsAmong (sofar ++ all) before later h stop
front_stops sofar all before now later reader taken e g h read stop had next stops =
    let whole : ((sofar ++ had.front) ++ next.line ∷ []) ++ next.behind ≡ sofar ++ all =
    append_assoc (sofar ++ had.front) (next.line ∷ []) next.behind ∙ append_assoc sofar had.front (next.line ∷ next.behind) ∙ ap (λ z. sofar ++ z) (sym (had.are ∙ ap (λ z. had.front ++ z) next.are)) in
    subst (λ ls. StopsAmong ls before later h stop) whole
    (stops_more ((sofar ++ had.front) ++ next.line ∷ []) next.behind before later h stop (stops (sofar ++ had.front) next.line next.reading had.put))

-- all lines were taken
pub front_all : (sofar all : List (List ℕ)) (before now : Option (List ℕ)) (reader : BlockReader) (taken : Taken) (e : Engined) → (had : HasTakenFront sofar all before now reader taken e) → had.rest ≡ []
    → HasPut (sofar ++ all) before now taken e
front_all sofar all before now reader taken e had none =
    subst (λ ls. HasPut (sofar ++ ls) before now taken e) (sym (had.are ∙ ap (λ z. had.front ++ z) none ∙ append-nil had.front)) had.put
