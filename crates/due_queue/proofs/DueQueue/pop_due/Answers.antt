use Rattle.std.proofs.Common.{refl, sym, arith}
use Rattle.std.proofs.lemmas.Bool.{false≢true}
use Rattle.due_queue.proofs.Popping.{is_head, none_in_empty, none_before_head, head_fits, head_is_due, head_is_first}
use Rattle.due_queue.proofs.DueQueue.pop_due.Goals as goal

pub returns-then-self-eq0-clause-none : goal.returns-then-self-eq0-clause-none
returns-then-self-eq0-clause-none c =
    let q = c.self.inside in
    (λ _. none_in_empty q.heap.items q.place.items q.times.items q.count c.args.self.now c.self.invariant c.self.view_is c.if-self-eq0.true c.args.now.0, λ _. refl)

pub returns-then-index-now-clause-none : goal.returns-then-index-now-clause-none
returns-then-index-now-clause-none c =
    let q = c.self.inside in
    let head = is_head q.heap.items q.place.items q.times.items q.count c.index-key.result.now c.index.result.now c.self.invariant (omega arith) c.index-key.ensures c.index.ensures in
    (λ _. none_before_head q.heap.items q.place.items q.times.items q.count c.index-key.result.now c.index.result.now c.args.self.now c.self.invariant c.self.view_is head c.args.now.0 c.if-index-now.true, λ _. refl)

pub clear-requires : goal.clear-requires
clear-requires c =
    let q = c.self.inside in
    let head = is_head q.heap.items q.place.items q.times.items q.count c.index-key.result.now c.index.result.now c.self.invariant (omega arith) c.index-key.ensures c.index.ensures in
    head_fits q.heap.items q.place.items q.times.items q.count c.index-key.result.now c.index.result.now c.args.self.now c.self.invariant c.self.view_is head

pub returns-clause-below : goal.returns-clause-below
returns-clause-below c =
    let q = c.self.inside in
    let head = is_head q.heap.items q.place.items q.times.items q.count c.index-key.result.now c.index.result.now c.self.invariant (omega arith) c.index-key.ensures c.index.ensures in
    head_fits q.heap.items q.place.items q.times.items q.count c.index-key.result.now c.index.result.now c.args.self.now c.self.invariant c.self.view_is head

pub returns-clause-none : goal.returns-clause-none
returns-clause-none c =
    let q = c.self.inside in
    let head = is_head q.heap.items q.place.items q.times.items q.count c.index-key.result.now c.index.result.now c.self.invariant (omega arith) c.index-key.ensures c.index.ensures in (
      λ e key due. false≢true (sym e),
      λ nothing. absurd (nothing c.index-key.result.now (head_is_due q.heap.items q.place.items q.times.items q.count c.index-key.result.now c.index.result.now c.args.self.now c.self.invariant c.self.view_is head c.args.now.0 c.if-index-now.false)),
    )

pub returns-clause-first : goal.returns-clause-first
returns-clause-first c =
    let q = c.self.inside in
    let head = is_head q.heap.items q.place.items q.times.items q.count c.index-key.result.now c.index.result.now c.self.invariant (omega arith) c.index-key.ensures c.index.ensures in
    head_is_first q.heap.items q.place.items q.times.items q.count c.index-key.result.now c.index.result.now c.args.self.now c.self.invariant c.self.view_is head c.args.now.0 c.if-index-now.false
