use Rattle.im_tool_words.proofs.KeyWords.{repeating_said}
use Rattle.im_tool_words.proofs.key_word.repeating_key.Goals as goal

pub returns-in_err-letter-clause-refused : goal.returns-in_err-letter-clause-refused
returns-in_err-letter-clause-refused c e key k =
    let s = repeating_said c.args.text.now c.args.repeated.now key c.requires.lacks k in c.in_err-letter.ensures.refused s.0 s.1 s.2
