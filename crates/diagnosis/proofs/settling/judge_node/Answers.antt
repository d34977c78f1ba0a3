use Rattle.std.proofs.Common.{◌≡◌, ◌+◌, Bool, true, false, cond, sym, ap, ◌∙◌, set}
use Rattle.std.specs.Prelude.{not}
use mathlib.Core.Bool.{beq}
use Rattle.diagnosis.specs.Judgement.{differ, flag_in}
use Rattle.diagnosis.proofs.settling.judge_node.Goals as goal

-- the test of the code
differ_by : (a b r : Bool) → beq b a ≡ r → differ a b ≡ not r
differ_by true true r e = ap not e
differ_by true false r e = ap not e
differ_by false true r e = ap not e
differ_by false false r e = ap not e

pub returns-then-is_set-was_dark : goal.returns-then-is_set-was_dark
returns-then-is_set-was_dark g c =
    let n = c.args.n.0 in
    let same = differ_by (flag_in c.args.flags.now.dark.flags n) (flag_in c.flag_node.new.flags.dark.flags n) true (ap (λ x. beq (flag_in c.flag_node.new.flags.dark.flags n) x) (sym c.is_set-was_dark.ensures) ∙ ap (λ x. beq x c.is_set-was_dark.result) (sym c.is_set.ensures) ∙ c.if-is_set-was_dark.true) in
    record {
      judged = record {
        next = c.flag_node.ensures.next;
        turned = sym (ap (λ b. cond b (set c.args.turned.now c.args.count c.args.n) c.args.turned.now) same);
        count = sym (ap (λ b. cond b (c.args.count + 1) c.args.count) same);
      };
      opened_begun = c.flag_node.ensures.opened_begun;
      dark_begun = c.flag_node.ensures.dark_begun;
      steps = c.flag_node.ensures.steps;
    }

pub returns : goal.returns
returns g c =
    let n = c.args.n.0 in
    let flips = differ_by (flag_in c.args.flags.now.dark.flags n) (flag_in c.flag_node.new.flags.dark.flags n) false (ap (λ x. beq (flag_in c.flag_node.new.flags.dark.flags n) x) (sym c.is_set-was_dark.ensures) ∙ ap (λ x. beq x c.is_set-was_dark.result) (sym c.is_set.ensures) ∙ c.if-is_set-was_dark.false) in
    record {
      judged = record {
        next = c.flag_node.ensures.next;
        turned = sym (ap (λ b. cond b (set c.args.turned.now c.args.count c.args.n) c.args.turned.now) flips);
        count = sym (ap (λ b. cond b (c.args.count + 1) c.args.count) flips);
      };
      opened_begun = c.flag_node.ensures.opened_begun;
      dark_begun = c.flag_node.ensures.dark_begun;
      steps = c.flag_node.ensures.steps;
    }
