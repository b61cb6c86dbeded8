use Rattle.std.proofs.lemmas.Str.{IsUtf8-from_ascii}
use Rattle.std.proofs.lemmas.Fmt.{IsAscii-from_digits}
use Rattle.im_tool_words.proofs.number.number_of.Goals as goal

pub returns-in_default : goal.returns-in_default
returns-in_default c n is = c.in_default.ensures.cases.0 (IsUtf8-from_ascii c.args.word.now (IsAscii-from_digits c.args.word.now is.0.1))
