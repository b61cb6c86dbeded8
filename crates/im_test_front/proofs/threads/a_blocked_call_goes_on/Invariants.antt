use Rattle.im_test_front.proofs.threads.a_blocked_call_goes_on.Given as goal

abbrev pub ghosts-found_behind_another : goal.ghosts-found_behind_another
ghosts-found_behind_another g a = record { name = a.blank.name; parts = a.blank.parts }
