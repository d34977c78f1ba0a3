use Rattle.std.proofs.Common.{rules, ◌≡◌, ◌∙◌, sym, false, refl}
use Rattle.std.specs.List.{list_any}
use Rattle.outage_ports.specs.MemoryShelf.{bars_start, start_fails}
use Rattle.outage_ports.proofs.Named.{stands_at, stands_nowhere}
use Rattle.outage_ports.proofs.memory_shelf.MemoryShelfShelf.start.Goals as goal

pub returns-in-None-clause-fails : goal.returns-in-None-clause-fails
returns-in-None-clause-fails c =
    let none = stands_nowhere c.self.inside.files.items c.deref-2.result.now c.args.name.now c.index_of.result c.in-None.is c.index_of.ensures c.deref-2.ensures.value in
    (λ _. rw (← c.self.view_is, none) refl, λ _. search rules)

pub returns-in-Some-clause-whole : goal.returns-in-Some-clause-whole
returns-in-Some-clause-whole c =
    let stands = stands_at c.self.inside.files.items c.deref-2.result.now c.args.name.now c.index_of.result c.in-Some.index c.in-Some.is c.index_of.ensures c.deref-2.ensures.value in
    rw (stands.there, ← c.self.view_is, stands.first) (refl, refl)

pub returns-in-Some-clause-begun : goal.returns-in-Some-clause-begun
returns-in-Some-clause-begun c =
    let stands = stands_at c.self.inside.files.items c.deref-2.result.now c.args.name.now c.index_of.result c.in-Some.index c.in-Some.is c.index_of.ensures c.deref-2.ensures.value in
    rw stands.there refl

pub returns-in-Some-clause-fails : goal.returns-in-Some-clause-fails
returns-in-Some-clause-fails c =
    let stands = stands_at c.self.inside.files.items c.deref-2.result.now c.args.name.now c.index_of.result c.in-Some.index c.in-Some.is c.index_of.ensures c.deref-2.ensures.value in
    let none : list_any (bars_start c.args.name.now) c.self.inside.mishaps.items ≡ false = search rules in
    let same : start_fails c.args.self.now c.args.name.now ≡ false = rw (← c.self.view_is, stands.first, none) refl in
    (λ e. cc, λ e. sym same ∙ e)

pub returns-in-Some-clause-ok : goal.returns-in-Some-clause-ok
returns-in-Some-clause-ok c =
    let stands = stands_at c.self.inside.files.items c.deref-2.result.now c.args.name.now c.index_of.result c.in-Some.index c.in-Some.is c.index_of.ensures c.deref-2.ensures.value in
    rw (← c.self.view_is, stands.there, stands.first) refl
