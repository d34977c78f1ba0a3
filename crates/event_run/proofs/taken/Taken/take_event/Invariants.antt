use Rattle.event_run.proofs.taken.Taken.take_event.Given as goal

abbrev pub ghosts-apply_event : goal.ghosts-apply_event
ghosts-apply_event a = record { name = a.blank.name; parts = a.blank.parts }
