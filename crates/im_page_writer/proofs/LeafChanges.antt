-- A held leaf through the calls that change it by a record.
use Rattle.std.proofs.Common.{◌≡◌, ℕ, true, false, Bool, List, Option, refl, ◌∙◌, ap, subst}
use Rattle.std.specs.Prelude.{option_map}
use Rattle.std.specs.Option.{option_map_or}
use Rattle.im_base_types.specs.Keys.{Key}
use Rattle.im_base_types.specs.Pages.{Entry, Page}
use Rattle.im_theory_log.specs.Histories.{page_after}
use Rattle.im_theory_page.specs.Page as pages
use Rattle.im_theory_page.specs.Header.{initial}
use Rattle.im_page_pool.specs.declared.frame.Frame.{Frame}
use Rattle.im_page_pool.specs.Pool.{Held, PoolView, IsAt, page_at, Sets}
use Rattle.im_page.specs.declared.leaf_edit.LeafEdit.{LeafEdit}
use Rattle.im_page.specs.declared.leaf_edit.LeafEdit.TheVariants.{Put, Take}
use Rattle.im_page.specs.LeafChange.{LeafTakes}
use Rattle.im_page.specs.LeafEdits.{edit_of, MayEdit}

-- the page that was set
pub set_page : (frame : Frame) (page : Page) (mark : Bool) (old new : PoolView) → Sets frame page mark old new → page_at new frame.number ≡ page
set_page frame page mark old new sets = ap (λ (o : Option Held). option_map_or (λ h. h.page) o (initial 0)) sets.here

pub set_at : (frame : Frame) (page : Page) (mark : Bool) (old new : PoolView) → Sets frame page mark old new → IsAt new frame
set_at frame page mark old new sets = ap (λ (o : Option Held). option_map (λ h. h.place) o) sets.here

pub set_then : (frame : Frame) (one two : Page) (old mid new : PoolView) → Sets frame one true old mid → Sets frame two true mid new → Sets frame two true old new
set_then frame one two old mid new first next = record {
  here = next.here;
  others = λ q ne. next.others q ne ∙ first.others q ne;
  order = next.order ∙ first.order;
  frames = next.frames ∙ first.frames;
  gets = next.gets ∙ first.gets;
}

-- three sets in a row: other entries, no mark, an LSN
pub three_sets : (frame : Frame) (lsn : ℕ) (es : List Entry) (want : Page) (old one two new : PoolView) → Sets frame (pages.with_entries (page_at old frame.number) es) true old one
    → Sets frame (record (page_at one frame.number) { body = record (page_at one frame.number).body { marked = false } }) true one two → Sets frame (record (page_at two frame.number) { lsn = lsn }) true two new
    → record { lsn = lsn; body = record (page_at old frame.number).body { marked = false; entries = es } } ≡ want → Sets frame want true old new
three_sets frame lsn es want old one two new first second third is =
    let a : page_at one frame.number ≡ pages.with_entries (page_at old frame.number) es = set_page frame _ true old one first in
    let b = set_page frame _ true one two second ∙ ap (λ (p : Page). record p { body = record p.body { marked = false } }) a in
    let c = ap (λ (p : Page). record p { lsn = lsn }) b ∙ is in
    subst (λ (p : Page). Sets frame p true old new) c (set_then frame _ _ old two new (set_then frame _ _ old one two first second) third)

-- ---- a key put or taken

-- it gives its page the record's LSN
pub edit_gives : (e : LeafEdit) (k : Key) (v : ℕ) (g : Page) → (page_after 1 (edit_of e k v) g).lsn ≡ 1
edit_gives Put k v g = refl
edit_gives Take k v g = refl

pub edit_lsn : (l : ℕ) (e : LeafEdit) (k : Key) (v : ℕ) (g : Page) → (page_after l (edit_of e k v) g).lsn ≡ l
edit_lsn l Put k v g = refl
edit_lsn l Take k v g = refl

-- a leaf that takes the record takes the change
pub may_edit : (e : LeafEdit) (k : Key) (v : ℕ) (g : Page) → LeafTakes (edit_of e k v) g → MayEdit e g k
may_edit Put k v g takes = takes
may_edit Take k v g takes = takes
