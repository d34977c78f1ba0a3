-- The counter of the call.
use Rattle.run_tests.proofs.as_library.a_fuse_explains_a_gasp.Given as goal

abbrev pub ghosts-explain_gasp : goal.ghosts-explain_gasp
ghosts-explain_gasp g a = record { name = a.blank.name; parts = a.blank.parts }
