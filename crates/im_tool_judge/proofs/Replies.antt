-- A reply is what its parts say.
use Rattle.std.proofs.Common.{◌≡◌, ℕ, zero, suc, ◌+◌, ◌<◌, List, [], ◌∷◌, ◌++◌, length, get_or, take, refl, sym, ◌∙◌, ap}
use Rattle.std.proofs.lemmas.List.{take_more}
use Rattle.im_base_types.specs.Keys.{Key}
use Rattle.im_base_types.specs.Pages.{Entry as KeyEntry}
use Rattle.im_base_types.specs.Answers.{Reply, Started, Found, Absent, Entry, End, Entries, Inserted, Duplicate, Deleted, Committed, RolledBack, More, Blocked, BlockedTree, Die, Done, Refused}
use Rattle.im_base_steps.specs.Calls.{entries_in}
use Rattle.im_tool_judge.specs.Replies.{kind_of, key_in, number_in}

-- the reply of these parts
rebuilt : ℕ → ℕ → Key → List KeyEntry → Reply
rebuilt zero n key list = Started n
rebuilt (suc zero) n key list = Found n
rebuilt (suc (suc zero)) n key list = Absent
rebuilt (suc (suc (suc zero))) n key list = Entry key n
rebuilt (suc (suc (suc (suc zero)))) n key list = End
rebuilt (suc (suc (suc (suc (suc zero))))) n key list = Entries list
rebuilt (suc (suc (suc (suc (suc (suc zero)))))) n key list = Inserted
rebuilt (suc (suc (suc (suc (suc (suc (suc zero))))))) n key list = Duplicate
rebuilt (suc (suc (suc (suc (suc (suc (suc (suc zero)))))))) n key list = Deleted
rebuilt (suc (suc (suc (suc (suc (suc (suc (suc (suc zero))))))))) n key list = Committed
rebuilt (suc (suc (suc (suc (suc (suc (suc (suc (suc (suc zero)))))))))) n key list = RolledBack
rebuilt (suc (suc (suc (suc (suc (suc (suc (suc (suc (suc (suc zero))))))))))) n key list = More
rebuilt (suc (suc (suc (suc (suc (suc (suc (suc (suc (suc (suc (suc zero)))))))))))) n key list = Blocked n
rebuilt (suc (suc (suc (suc (suc (suc (suc (suc (suc (suc (suc (suc (suc zero))))))))))))) n key list = BlockedTree
rebuilt (suc (suc (suc (suc (suc (suc (suc (suc (suc (suc (suc (suc (suc (suc zero)))))))))))))) n key list = Die
rebuilt (suc (suc (suc (suc (suc (suc (suc (suc (suc (suc (suc (suc (suc (suc (suc zero))))))))))))))) n key list = Done
rebuilt (suc (suc (suc (suc (suc (suc (suc (suc (suc (suc (suc (suc (suc (suc (suc (suc kind)))))))))))))))) n key list = Refused n

rebuilt_is : (r : Reply) → rebuilt (kind_of r) (number_in r) (key_in r) (entries_in r) ≡ r
unfolding rebuilt
rebuilt_is (Started t) = refl
rebuilt_is (Found rid) = refl
rebuilt_is Absent = refl
rebuilt_is (Entry key rid) = refl
rebuilt_is End = refl
rebuilt_is (Entries list) = refl
rebuilt_is Inserted = refl
rebuilt_is Duplicate = refl
rebuilt_is Deleted = refl
rebuilt_is Committed = refl
rebuilt_is RolledBack = refl
rebuilt_is More = refl
rebuilt_is (Blocked holder) = refl
rebuilt_is BlockedTree = refl
rebuilt_is Die = refl
rebuilt_is Done = refl
rebuilt_is (Refused fault) = refl

-- replies with the same parts are one
pub same_parts : (a b : Reply) → kind_of a ≡ kind_of b → number_in a ≡ number_in b → key_in a ≡ key_in b → entries_in a ≡ entries_in b → a ≡ b
same_parts a b kind number key list =
    sym (rebuilt_is a)
    ∙ ap (λ (k : ℕ). rebuilt k (number_in a) (key_in a) (entries_in a)) kind
    ∙ ap (λ (n : ℕ). rebuilt (kind_of b) n (key_in a) (entries_in a)) number
    ∙ ap (λ (k : Key). rebuilt (kind_of b) (number_in b) k (entries_in a)) key
    ∙ ap (λ (l : List KeyEntry). rebuilt (kind_of b) (number_in b) (key_in b) l) list
    ∙ rebuilt_is b

-- one entry more that is the same
pub same_next : (some others : List KeyEntry) (i : ℕ) (x y : KeyEntry) → i < length some → i < length others → x ≡ get_or some i x → y ≡ get_or others i y → x ≡ y → take i some ≡ take i others → take (i + 1) some ≡ take (i + 1) others
same_next some others i x y in_some in_others is_x is_y same before =
    take_more some i x in_some
    ∙ ap (λ (e : KeyEntry). take i some ++ e ∷ []) (sym is_x ∙ same ∙ is_y)
    ∙ ap (λ (l : List KeyEntry). l ++ get_or others i y ∷ []) before
    ∙ sym (take_more others i y in_others)
