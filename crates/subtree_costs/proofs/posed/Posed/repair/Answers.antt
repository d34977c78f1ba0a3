use Rattle.std.proofs.Common.{◌<◌, sym, subst, ap, ◌∙◌, arith, length}
use Rattle.std.specs.Prelude.{◌==◌}
use Rattle.std.proofs.lemmas.Bool.{false≢true}
use Rattle.std.proofs.lemmas.List.{length-set}
use Rattle.grid_model.specs.Problem.{mark_at}
use Rattle.subtree_costs.specs.Shares.{row_at, share_of}
use Rattle.subtree_costs.specs.Trees.{is_top}
use Rattle.subtree_costs.specs.Costed.{root_part}
use Rattle.subtree_costs.specs.Repairs.{problem_at, table_at, depth_at, AreDue, IsSmall}
use Rattle.subtree_costs.proofs.Hung.{not_root, node_within, node_deeper, weight_small}
use Rattle.subtree_costs.proofs.Repairing.{share_small, share_grows, row_other, row_here, part_small, due_at_above, exact_then, total_then, total_small}
use Rattle.subtree_costs.proofs.posed.Posed.repair.Goals as goal

pub change_row-whole-requires-in-Some-clause-small : goal.change_row-whole-requires-in-Some-clause-small
change_row-whole-requires-in-Some-clause-small g c =
    let q = c.args.self.now in
    let ready = c.requires.ready in
    let inv = c.loop-above.invariant in
    let a = c.in-Some.above in
    let e = sym c.in-Some.is ∙ c.above.ensures in
    let within = node_within q ready c.loop-above.top.0 inv.node a e in
    let deep = node_deeper q ready c.loop-above.top.0 inv.node a e in
    subst IsSmall (sym (inv.kept a.node.0 within (omega arith))) (c.requires.small a.node.0 within)

pub change_row-whole-requires-in-Some-clause-fitting : goal.change_row-whole-requires-in-Some-clause-fitting
change_row-whole-requires-in-Some-clause-fitting g c =
    let q = c.args.self.now in
    let ready = c.requires.ready in
    let inv = c.loop-above.invariant in
    let a = c.in-Some.above in
    let e = sym c.in-Some.is ∙ c.above.ensures in
    let light = weight_small q ready c.loop-above.top.0 inv.node a e in
    let mark = mark_at q.marks.now a.device.0 in
    let was = share_small mark a.weight c.loop-above.whole.before light (subst IsSmall (sym inv.before) (c.requires.small c.loop-above.top.0 inv.node)) in
    let grows = share_grows mark a.weight c.loop-above.whole.before c.loop-above.whole.after inv.fitting.live_after inv.fitting.dark_after in
    let live_was = ap (λ r. r.live) c.share.ensures in
    let dark_was = ap (λ r. r.dark) c.share.ensures in
    let live_is = ap (λ r. r.live) c.share-in-Some.ensures in
    let dark_is = ap (λ r. r.dark) c.share-in-Some.ensures in
    record {
      live_before = let x = was.0 in omega arith;
      dark_before = let x = was.1 in omega arith;
      live_after = let x = grows.0 in omega arith;
      dark_after = let x = grows.1 in omega arith;
    }

pub change_row-whole-requires-in-Some-clause-due : goal.change_row-whole-requires-in-Some-clause-due
change_row-whole-requires-in-Some-clause-due g c =
    let q = c.args.self.now in
    let inv = c.loop-above.invariant in
    let a = c.in-Some.above in
    let e = sym c.in-Some.is ∙ c.above.ensures in
    subst (λ r. AreDue (problem_at q) (table_at q c.loop-above.rows) (λ m. a.node.0 == m) r c.share-in-Some.result) (sym c.share.ensures)
    (subst (λ r. AreDue (problem_at q) (table_at q c.loop-above.rows) (λ m. a.node.0 == m) (share_of (mark_at q.marks.now a.device.0) a.weight c.loop-above.whole.before) r) (sym c.share-in-Some.ensures)
    (due_at_above q c.requires.ready c.loop-above.rows c.loop-above.top.0 inv.node a e c.loop-above.whole.before c.loop-above.whole.after inv.due))

pub loop-above-preserved : goal.loop-above-preserved
loop-above-preserved g c =
    let q = c.args.self.now in
    let ready = c.requires.ready in
    let inv = c.loop-above.invariant in
    let top = c.loop-above.top.0 in
    let a = c.in-Some.above in
    let e = sym c.in-Some.is ∙ c.above.ensures in
    let within = node_within q ready top inv.node a e in
    let deep = node_deeper q ready top inv.node a e in
    let u = a.node.0 in
    let rows = c.loop-above.rows in
    let w = c.change_row-whole-in-Some in
    let r = w.result.after in
    record {
      node = within;
      each = ap length w.ensures.rows ∙ length-set rows u r ∙ inv.each;
      fitting = w.ensures.fitting;
      due = w.ensures.due;
      before = w.ensures.before ∙ inv.kept u within (omega arith);
      after = sym (ap (λ xs. row_at xs u) w.ensures.rows ∙ row_here rows u r (subst (λ k. u < k) (sym inv.each) within));
      kept = λ m lm d. ap (λ xs. row_at xs m) w.ensures.rows ∙ row_other rows u r m (λ s. let x = ap (depth_at q) s in absurd (omega arith)) ∙ inv.kept m lm (omega arith);
      tops = λ m lm t ne. ap (λ xs. row_at xs m) w.ensures.rows ∙ row_other rows u r m ne
          ∙ inv.tops m lm t (λ s. false≢true (sym (not_root q ready top inv.node a e) ∙ (ap (is_top q.forest.now) (sym s) ∙ t)));
      steps = let s = inv.steps in let x = w.ensures.steps in omega arith;
    }

pub overflow_add-result : goal.overflow_add-result
overflow_add-result g c =
    let q = c.args.self.now in
    let inv = c.loop-above.invariant in
    let most = total_small q c.requires.ready c.args.rows.now c.requires.small in
    let is = c.requires.total in
    let fit = inv.fitting in
    let b = fit.live_before in
    let d = fit.dark_before in
    let x = fit.live_after in
    let y = fit.dark_after in
    let part = part_small q c.loop-above.top.0 c.loop-above.whole.after 6000000000000 (omega arith) (omega arith) in
    let e = c.root_part.ensures in
    omega arith

pub overflow_sub-result : goal.overflow_sub-result
overflow_sub-result g c =
    let q = c.args.self.now in
    let inv = c.loop-above.invariant in
    let top = c.loop-above.top.0 in
    let sums = total_then q c.requires.ready c.loop-above.rows c.args.rows.now top inv.node (sym c.in_default.is ∙ c.above.ensures) inv.tops in
    let is = c.requires.total in
    let old = c.root_part-2.ensures ∙ ap (root_part q.grid.now top) inv.before in
    let new = c.root_part.ensures ∙ ap (root_part q.grid.now top) inv.after in
    omega arith

pub returns-clause-exact : goal.returns-clause-exact
returns-clause-exact g c =
    let inv = c.loop-above.invariant in
    exact_then c.args.self.now c.requires.ready c.loop-above.rows c.loop-above.top.0 inv.node (sym c.in_default.is ∙ c.above.ensures) _ _ inv.due

pub returns-clause-total : goal.returns-clause-total
returns-clause-total g c =
    let q = c.args.self.now in
    let inv = c.loop-above.invariant in
    let top = c.loop-above.top.0 in
    let sums = total_then q c.requires.ready c.loop-above.rows c.args.rows.now top inv.node (sym c.in_default.is ∙ c.above.ensures) inv.tops in
    let is = c.requires.total in
    let old = c.root_part-2.ensures ∙ ap (root_part q.grid.now top) inv.before in
    let new = c.root_part.ensures ∙ ap (root_part q.grid.now top) inv.after in
    omega arith

pub loop-above-smaller : goal.loop-above-smaller
loop-above-smaller g c =
    let q = c.args.self.now in
    let inv = c.loop-above.invariant in
    let a = c.in-Some.above in
    let deep = node_deeper q c.requires.ready c.loop-above.top.0 inv.node a (sym c.in-Some.is ∙ c.above.ensures) in
    omega arith
