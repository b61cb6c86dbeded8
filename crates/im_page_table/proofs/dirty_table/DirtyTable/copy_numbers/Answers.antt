use Rattle.std.proofs.Common.{◌≡◌, ◌≤◌, ℕ, List, length, map, ap, subst, ◌∙◌, rules, arith, take_all}
use Rattle.std.specs.Prelude.{IsPermutation}
use Rattle.std.proofs.lemmas.List.Sorted.{Contains-permutation, IsNonDecreasingBy-from_sort}
use Rattle.im_page_table.specs.declared.table_entry.TableEntry.{TableEntry}
use Rattle.im_page_table.proofs.Tables.{has_number}
use Rattle.im_page_table.proofs.dirty_table.DirtyTable.copy_numbers.Goals as goal

pub returns-clause-same : goal.returns-clause-same
returns-clause-same c =
    let xs = c.args.self.now.entries in
    let all : length xs ≤ c.loop-at.at = search (rules, arith) in
    let is : c.loop-at.numbers.items ≡ map (λ (x : TableEntry). x.page) xs = c.loop-at.invariant.done ∙ ap (λ (l : List TableEntry). map (λ (x : TableEntry). x.page) l) (take_all c.loop-at.at xs all) in
    subst (λ (l : List ℕ). IsPermutation l c.sort_unstable.new.self.items) is c.sort_unstable.ensures.permutation

pub returns-clause-all : goal.returns-clause-all
returns-clause-all c p some =
    Contains-permutation (map (λ (x : TableEntry). x.page) c.args.self.now.entries) c.sort_unstable.new.self.items p (returns-clause-same c) (has_number c.args.self.now.entries p some)

pub returns-clause-sorted : goal.returns-clause-sorted
returns-clause-sorted c = IsNonDecreasingBy-from_sort (λ x. x) c.sort_unstable.new.self.items c.sort_unstable.ensures.sorted
