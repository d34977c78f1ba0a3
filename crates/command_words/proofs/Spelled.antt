-- The command line is one of those whose parse is exact, and words are texts.
use Rattle.std.proofs.Common.{◌≡◌, ap, refl, subst, true, List, [], ◌∷◌, map, string_bytes, String, Result, Err, inl, inr}
use Rattle.std.specs.Prelude.{◌≢◌, ◌⊎◌, IsErrOf}
use Rattle.std.specs.Global.{Global}
use Rattle.std.proofs.lemmas.Str.{encodes-chars, IsUtf8-had}
use Rattle.clap.specs.Words.{Kinds, IsAmong, is_simple, is_simple_and_free}
use Rattle.clap.specs.declared.error.kind.ErrorKind.{ErrorKind}
use Rattle.clap.specs.declared.error.kind.ErrorKind.TheVariants.{OutOfMemory}
use Rattle.clap.proofs.OnLiterals.{clap_on_literals}
use Rattle.command_words.specs.Told.{outage_app}
use Rattle.command_words.proofs.Looks.{AllSpelled}

pub outage_simple_and_free : is_simple_and_free outage_app ≡ true
unfolding outage_app clap_on_literals
outage_simple_and_free = refl

pub outage_simple : is_simple outage_app ≡ true
unfolding outage_app clap_on_literals
outage_simple = refl

-- an error of some kind comes only where a fault is
pub some_fault : (k : ErrorKind) (kinds : Kinds) → ((k ≡ OutOfMemory) ⊎ IsAmong k kinds) → ((k ≡ OutOfMemory) → ⊥) → kinds ≢ []
some_fault k kinds h n e = elim h [ inl m ↦ n m | inr among ↦ let P : Kinds → Type 0 = IsAmong k in subst P e among ]

pub all_spelled : (words : List (String Global)) → AllSpelled (map (string_bytes {Z = Global}) words)
all_spelled [] = tt
all_spelled (w ∷ words) = (encodes-chars (string_bytes w) (IsUtf8-had (string_bytes w) w.ok), all_spelled words)

-- an error is the same whatever the success would be
pub usage_again : {T U E : Type 0} (fault usage : E) → IsErrOf {T = T} {E = E} (Err fault) usage → IsErrOf {T = U} {E = E} (Err fault) usage
usage_again {T} {U} {E} fault usage e =
    let same : fault ≡ usage = cc in
    let failed : E → Result U E = λ x. Err x in
    ap failed same
