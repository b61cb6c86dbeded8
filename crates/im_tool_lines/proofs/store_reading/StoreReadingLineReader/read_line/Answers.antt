use Rattle.std.proofs.Common.{map, subst}
use Rattle.im_tool_lines.specs.Scripts.{Before, Kind, MayFollow, place_after}
use Rattle.im_tool_lines.specs.StoreScripts.{store_kind_of}
use Rattle.im_tool_lines.proofs.StoreSpelled.{one_store_kind}
use Rattle.im_tool_lines.proofs.store_reading.StoreReadingLineReader.read_line.Goals as goal

-- what is spelled alike follows alike
pub returns-clause-refused : goal.returns-clause-refused
returns-clause-refused c is said read next spelled may =
    c.take.ensures.refused is said read
    (subst (λ (k : Kind). MayFollow k (place_after Before (map store_kind_of said))) (one_store_kind c.args.line.now next c.in_ok-line.line spelled c.in_ok-line.ensures.says) may)
