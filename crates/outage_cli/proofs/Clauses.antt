-- How a run ends that reads no file.
use Rattle.std.proofs.Common.{◌≡◌, ℕ, List, Option, None, Some, refl, sym, subst, inl, inr}
use Rattle.outage_ports.specs.Bytes.{Files}
use Rattle.command_words.specs.Forms.{Command, Replay, Check, Trial}
use Rattle.run_rules.specs.Run.{run_of}
use Rattle.run_rules.specs.Ends.{IsEnd}
use Rattle.run_rules.specs.declared.status.Status.TheVariants.{Usage, Memory}

module _ (files : Option Files) (left out : Option (List ℕ)) where
  -- words of no form are a usage
  pub usage_end : (command : Option Command) → command ≡ None → IsEnd (run_of files left left out out command) Usage
  usage_end command none =
      subst (λ (k : Option Command). IsEnd (run_of files left left out out k) Usage) (sym none) (record { untouched = refl; left = refl; unread = inl refl })

-- memory may run out as the words are read, whatever they say
pub unread_end : (files : Option Files) (left out : Option (List ℕ)) (command : Option Command) → IsEnd (run_of files left left out out command) Memory
unread_end files left out None = record { untouched = refl; left = refl; unread = inr refl }
unread_end None left out (Some (Replay places wish)) = λ e. cc
unread_end (Some files) left out (Some (Replay places wish)) = inl refl
unread_end None left out (Some (Check places report)) = λ e. cc
unread_end (Some files) left out (Some (Check places report)) = refl
unread_end files left out (Some (Trial n)) = inl refl

-- words that ask for something are of a form
pub none_asked : (command : Option Command) (asked : Command) → command ≡ Some asked → command ≡ None → ⊥
none_asked command asked some none = cc

-- nor of another
pub other_asked : (command : Option Command) (asked other : Command) → command ≡ Some asked → command ≡ Some other → asked ≡ other
other_asked command asked other some more = cc

pub one_trial : {n m : ℕ} → Trial n ≡ Trial m → n ≡ m
one_trial e = cc
