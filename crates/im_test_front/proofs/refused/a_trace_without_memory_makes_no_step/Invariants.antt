use Rattle.im_test_front.proofs.refused.a_trace_without_memory_makes_no_step.Given as goal

abbrev pub ghosts-came_of : goal.ghosts-came_of
ghosts-came_of g a = record { name = a.blank.name; parts = a.blank.parts }
