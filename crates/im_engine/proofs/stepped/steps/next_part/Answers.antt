use Rattle.std.proofs.Common.{◌<◌, length, sym, ap, subst, ◌∙◌}
use Rattle.im_smo_log.specs.declared.change.Change.{Change}
use Rattle.im_engine.proofs.SteppedParts.{all_made}
use Rattle.im_engine.proofs.stepped.steps.next_part.Goals as goal
use Rattle.im_engine.proofs.Looked.{not_true}

pub returns-then-is_left : goal.returns-then-is_left
returns-then-is_left c = record {
  u = c.in-Some.under;
  is = c.in-Some.is;
  owner = sym (ap (λ (x : Change). x.transaction) c.change.ensures) ∙ sym c.owner.ensures ∙ c.if-owner-t.false;
  left = subst (λ (x : Change). x.done < length x.images) c.change-2.ensures (c.is_left.ensures.0 c.if-is_left.true);
}

pub returns-in-Puts : goal.returns-in-Puts
returns-in-Puts c = record {
  owns = record {
    u = c.in-Some.under;
    is = c.in-Some.is;
    owner = sym (ap (λ (x : Change). x.transaction) c.change.ensures) ∙ sym c.owner.ensures ∙ c.if-owner-t.false;
    end = all_made c.in-Some.under.begun.change (subst (λ (x : Change). x.done < length x.images → ⊥) c.change-2.ensures (λ left. not_true c.is_left.result c.if-is_left.false (c.is_left.ensures.1 left)));
  };
  key = c.in-Puts.field-0;
  rid = c.in-Puts.field-1;
  leaf = c.in-Puts.field-2;
  aim = c.in-Puts.is;
}

pub returns-in-Drops : goal.returns-in-Drops
returns-in-Drops c = record {
  owns = record {
    u = c.in-Some.under;
    is = c.in-Some.is;
    owner = sym (ap (λ (x : Change). x.transaction) c.change.ensures) ∙ sym c.owner.ensures ∙ c.if-owner-t.false;
    end = all_made c.in-Some.under.begun.change (subst (λ (x : Change). x.done < length x.images → ⊥) c.change-2.ensures (λ left. not_true c.is_left.result c.if-is_left.false (c.is_left.ensures.1 left)));
  };
  key = c.in-Drops.field-0;
  aim = c.in-Drops.is;
}

pub returns-in-TakesBack : goal.returns-in-TakesBack
returns-in-TakesBack c = record {
  u = c.in-Some.under;
  is = c.in-Some.is;
  aim_is = c.in-TakesBack.is;
  owner = sym (ap (λ (x : Change). x.transaction) c.change.ensures) ∙ sym c.owner.ensures ∙ c.if-owner-t.false;
  end = all_made c.in-Some.under.begun.change (subst (λ (x : Change). x.done < length x.images → ⊥) c.change-2.ensures (λ left. not_true c.is_left.result c.if-is_left.false (c.is_left.ensures.1 left)));
}

pub returns-in-TookBack : goal.returns-in-TookBack
returns-in-TookBack c = record {
  u = c.in-Some.under;
  is = c.in-Some.is;
  aim_is = c.in-TookBack.is;
  owner = sym (ap (λ (x : Change). x.transaction) c.change.ensures) ∙ sym c.owner.ensures ∙ c.if-owner-t.false;
  end = all_made c.in-Some.under.begun.change (subst (λ (x : Change). x.done < length x.images → ⊥) c.change-2.ensures (λ left. not_true c.is_left.result c.if-is_left.false (c.is_left.ensures.1 left)));
}
