use Rattle.im_test_front.proofs.full.a_full_trace_takes_the_force_for_those_that_wait.Given as goal

abbrev pub ghosts-told_by_a_full_trace : goal.ghosts-told_by_a_full_trace
ghosts-told_by_a_full_trace g a = record { name = a.blank.name; parts = a.blank.parts }
