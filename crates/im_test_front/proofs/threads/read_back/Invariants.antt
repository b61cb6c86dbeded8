use Rattle.im_test_front.proofs.threads.read_back.Given as goal

abbrev pub ghosts-one_caller : goal.ghosts-one_caller
ghosts-one_caller g a = record { name = a.blank.name; parts = a.blank.parts }
