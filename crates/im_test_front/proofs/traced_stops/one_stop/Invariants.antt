use Rattle.im_test_front.proofs.traced_stops.one_stop.Given as goal

abbrev pub ghosts-stopped_at : goal.ghosts-stopped_at
ghosts-stopped_at g a = record { name = a.blank.name; parts = a.blank.parts }
