use Rattle.std.proofs.Common.{sym, ◌∙◌, ⊎_elim}
use Rattle.std.proofs.Math.Path.{fun_ext}
use Rattle.std.proofs.lemmas.Bool.{cases_lt}
use Rattle.outage_rules.specs.Reference.{greedy}
use Rattle.outage_rules.proofs.Exists.{greedy_opens}
use Rattle.outage_rules.proofs.Cautious.{only_one}
use Rattle.outage_rules.proofs.diagnosis_is_one.Goals as goal

pub returns : goal.returns
returns c = λ p t sound forest rows a b wa wb da db. fun_ext (λ d. ⊎_elim
    (λ l. only_one p t sound forest rows (greedy p t) (greedy_opens p t sound forest) a b da db d l)
    (λ l. wa d l ∙ sym (wb d l))
    (cases_lt d p.devices))
