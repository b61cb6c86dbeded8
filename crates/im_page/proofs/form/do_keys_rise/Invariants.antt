use Rattle.std.proofs.Common.{◌+◌, ◌-◌, ◌<◌, ◌≤◌, ◌≡◌, slice_index}
use Rattle.im_theory_page.specs.Entry.{width}
use Rattle.im_theory_page.specs.Form.{slot_at, key_from}
use Rattle.im_page.specs.Sound.{AreUniform, IsTopOf}
use Rattle.im_page.proofs.form.do_keys_rise.Given as goal

abbrev pub invariant-loop-i : goal.invariant-loop-i
invariant-loop-i l = record {
  uniform : AreUniform l.leaf l.bytes (1 + l.key_len + width l.leaf) l.i;
  before : 0 < l.i → l.before ≡ slot_at l.bytes (l.i - 1);
  fits : 0 < l.i → l.before + 1 + slice_index l.bytes l.before ≤ 4096;
  top : 0 < l.i → IsTopOf (key_from l.bytes l.before) l.top;
}
