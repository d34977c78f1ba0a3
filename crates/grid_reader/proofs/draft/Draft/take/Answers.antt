use Rattle.grid_reader.proofs.draft.Draft.take.Goals as goal

pub returns-in-Source-clause-broken : goal.returns-in-Source-clause-broken
returns-in-Source-clause-broken c = λ rows lines h. rw c.in-Source.is (c.add_source.ensures.broken rows lines h)

pub returns-in-Device-clause-broken : goal.returns-in-Device-clause-broken
returns-in-Device-clause-broken c = λ rows lines h. rw c.in-Device.is (c.add_device.ensures.broken rows lines h)

pub returns-in-Meter-clause-broken : goal.returns-in-Meter-clause-broken
returns-in-Meter-clause-broken c = λ rows lines h. rw c.in-Meter.is (c.add_meter.ensures.broken rows lines h)

pub returns-in-Setting-clause-broken : goal.returns-in-Setting-clause-broken
returns-in-Setting-clause-broken c = λ rows lines h. rw c.in-Setting.is (c.set.ensures.broken rows lines h)
