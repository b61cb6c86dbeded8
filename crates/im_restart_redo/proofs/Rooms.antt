-- Workers who have room for more.
use Rattle.std.proofs.Common.{ℕ, ◌≤◌, List, arith}
use Rattle.im_page_rounds.specs.declared.worker.Worker.{Worker}
use Rattle.im_page_rounds.specs.Workers.{HaveRoom}

pub room_fewer : (n most : ℕ) (workers : List Worker) → n ≤ most → HaveRoom most workers → HaveRoom n workers
room_fewer n most workers few room k w lt = let all = room k w lt in omega (arith, few, all)
