-- The page's record, verdict and count are those of the crates store_entry, verdict, judge, cut_counts and cut. Assumes nothing.
use mathlib.Core.Path.{◌≡◌, refl}
use mathlib.Core.Bool.{Bool, true, false, cond, not, ◌&&◌, ◌||◌}
use mathlib.Core.List.{List}
use Prim.Native.Nat.{ℕ, ◌-◌}
use lib.Dec.{leb, ltb}
use lib.ListN.{length, get_or}
use borrow.Author.Tests.{ltb-true, ltb-false, lt-leb, le-leb}
use lib.Ieee as Ieee
use lib.Ieee.{Float}
use Rattle.flow.specs.Flow as flow
use Rattle.ieee.specs.Doubles.{◌⊕◌, one, half}
use Rattle.flow.specs.Flow.{is_fresh}
use Rattle.flow.specs.declared.Bucket.{Bucket}
use Rattle.flow.specs.declared.Use.{Use}
use Rattle.verdict.specs.Verdict as verdicts
use Rattle.verdict.specs.Verdict.{is_admitted}
use Rattle.verdict.specs.Rules as rules
use Rattle.verdict.specs.declared.Rule.{Rule}
use Rattle.verdict.specs.declared.Verdict.{Verdict}
use Rattle.verdict.specs.declared.Verdict.TheVariants.{Admitted, OverShare, RelayRate}
use Rattle.sender.specs.declared.Unit.{Unit}
use Rattle.sender.specs.declared.Name.{Name}
use Rattle.sender.specs.Sender.{name_of, hash_of, is_overflow}
use Rattle.store.specs.Store.{with_tags}
use Rattle.cut_sources.specs.Counted as counts
use Rattle.head.specs.declared.Flow.{Flow}
use Rattle.store_entry.specs.Entering as entering
use Rattle.head.specs.Headed.{headed}
use Rattle.cut_counts.specs.Counting as counting
use Rattle.cut.specs.Cutting as cutting
use Rattle.judge.specs.Judging as judging
use Rattle.meaning.specs.State.{State, After, after, with_head, with_rows, with_flow, with_tracked, parts, ◌!◌}
use Rattle.meaning.specs.Page as page

-- ---- the record
abbrev pub entered : State → entering.Entered → After ℕ
entered s e = after e.place.at (with_rows (with_tracked s e.place.tracked) e.rows)

pub entry-is : (s : State) (u : Unit) (now : ℕ) → page.entry s u now ≡ entered s (entering.entry s.rows s.head.tracked s.head.unit_room u now)
unfolding page.entry entering.entry
entry-is s u now = go (is_overflow u) (ltb (entering.found_at s.rows s.head.unit_room (name_of u)) s.head.unit_room) (ltb s.head.tracked s.head.unit_room) _ _ _ _
  where
    go : (a b c : Bool) (w x y z : entering.Entered) → cond a (entered s w) (cond b (entered s x) (cond c (entered s y) (entered s z))) ≡ entered s (cond a w (cond b x (cond c y z)))
    go true b c w x y z = refl
    go false true c w x y z = refl
    go false false true w x y z = refl
    go false false false w x y z = refl

pub used_is : (s : State) (i : ℕ) → page.used_at s i ≡ entering.used_at s.rows s.head.overflow i
unfolding page.used_at entering.used_at
used_is s i = refl

abbrev pub backed : State → entering.Back → State
backed s b = with_rows (with_head s (headed s.head s.head.flow b.overflow s.head.tracked)) b.rows

pub back_is : (s : State) (i : ℕ) (u : Use) → page.put_back s i u ≡ backed s (entering.put_back s.rows s.head.overflow i u)
unfolding page.put_back entering.put_back
back_is s i u = go (ltb i (length s.rows.units)) _ _
  where
    go : (a : Bool) (x y : entering.Back) → cond a (backed s x) (backed s y) ≡ backed s (cond a x y)
    go true x y = refl
    go false x y = refl

-- ---- the outcome
decided_is : (want : Float) (credit tokens reserve : Bool) → page.decided want credit tokens reserve ≡ verdicts.decided want credit tokens reserve
unfolding page.decided
decided_is want credit tokens reserve = go (Ieee.le want one) credit tokens reserve
  where
    go : (a c t r : Bool) → cond a (cond (not c) OverShare (cond (not t) RelayRate Admitted)) (cond (c && t && r) Admitted OverShare) ≡ cond a (verdicts.within c t) (verdicts.above c t r)
    go true true true r = refl
    go true true false r = refl
    go true false t r = refl
    go false true true true = refl
    go false true true false = refl
    go false true false r = refl
    go false false t r = refl

weight_is : (fresh : Bool) (idle : ℕ) → cond (fresh || leb 2000 idle) one half ≡ verdicts.weight_of fresh idle
weight_is true idle = refl
weight_is false idle = refl

settled_is : (v : Verdict) (bs : List Bucket) (u : Use) (cost : List Float) → record { verdict = v; buckets = cond (is_admitted v) (flow.spent_all bs cost) bs; used = flow.holding u (cond (is_admitted v) (flow.charged u cost).credit u.credit) } ≡ verdicts.settled v bs u cost
settled_is Admitted bs u cost = refl
settled_is OverShare bs u cost = refl
settled_is RelayRate bs u cost = refl

pub outcome_is : (f : Flow) (level : List Float) (u : Use) (rank : Float) (cost : List Float) (now : ℕ) → page.outcome f level u rank cost now ≡ judging.outcome f level u rank cost now
unfolding page.outcome page.met page.part_left judging.outcome flow.fills
outcome_is f level u rank cost now =
    let fill = flow.fills level (flow.numbers f.rate) in
    let met = verdicts.met u now fill cost in
    let buckets = flow.refilled_all f.buckets (now - f.at_ms) in
    let want = verdicts.want (verdicts.weight_of (is_fresh u.fresh) (now - u.at_ms)) met.attempted cost level in
    rw (weight_is (is_fresh u.fresh) (now - u.at_ms), decided_is want (verdicts.covers met.credit cost) (verdicts.suffice buckets cost) (verdicts.leaves buckets cost (verdicts.mark_of want rank)))
    (settled_is (verdicts.decided want (verdicts.covers met.credit cost) (verdicts.suffice buckets cost) (verdicts.leaves buckets cost (verdicts.mark_of want rank))) buckets met cost)

-- ---- a judgement on the record
abbrev pub passed : State → judging.Through → After Verdict
passed s p = after p.verdict (with_rows (with_head s p.head) p.rows)

admitted_is : (v : Verdict) (xs cost : List Float) → cond (is_admitted v) (parts λ d. xs ! d ⊕ cost ! d) xs ≡ judging.admitted_then v xs cost
unfolding judging.admitted_then judging.raised
admitted_is v xs cost = refl

pub judged_is : (s : State) (u : Unit) (cost : List Float) (now : ℕ) → page.judged s u cost now ≡ passed s (judging.judged s.head s.rows u cost now)
unfolding page.judged page.ranked judging.judged judging.flowed judging.rank_at
judged_is s u cost now =
    let h = s.head in
    let e = entering.entry s.rows h.tracked h.unit_room u now in
    let t = (entered s e).state in
    let used = entering.used_at e.rows h.overflow e.place.at in
    let rank = judging.rank_at (hash_of u) e.place.at h.unit_room in
    let o = judging.outcome h.flow h.level used rank cost now in
    rw (entry-is s u now, used_is t e.place.at, outcome_is h.flow h.level used rank cost now, admitted_is o.verdict h.flow.admitted cost)
    (rw (back_is (with_flow t (judging.flowed h.flow o cost now)) e.place.at o.used) refl)

-- ---- the rule
-- over the level, where the reserve holds in all dimensions, and within it
reserved_is : (w : Bool) (n : ℕ) (x y : Rule) → cond (w || leb flow.dims n) x y ≡ cond w x (cond (ltb n flow.dims) y x)
reserved_is true n x y = refl
reserved_is false n x y = go (ltb n flow.dims) refl
  where
    go : (b : Bool) → ltb n flow.dims ≡ b → cond (leb flow.dims n) x y ≡ cond b y x
    go true e = rw (lt-leb flow.dims n (ltb-true n flow.dims e)) refl
    go false e = rw (le-leb flow.dims n (ltb-false n flow.dims e)) refl

-- from what the batch meets, as verdict/specs/Rules has it
pub rule_met : (f : Flow) (level : List Float) (u : Use) (rank : Float) (cost : List Float) (now : ℕ)
    → page.rule f level u rank cost now ≡ rules.rule_of (page.met f level u rank cost now).want rank (page.met f level u rank cost now).credit (page.met f level u rank cost now).buckets cost
unfolding page.rule page.met page.part_left rules.rule_of rules.reserved rules.credit_lacks rules.tokens_lack rules.reserve_lacks rules.side_of
rule_met f level u rank cost now = rw (reserved_is _ _ _ _) refl

pub rule_is : (f : Flow) (level : List Float) (u : Use) (rank : Float) (cost : List Float) (now : ℕ) → page.rule f level u rank cost now ≡ judging.rule f level u rank cost now
unfolding page.met judging.rule rules.ruled flow.fills
rule_is f level u rank cost now = rw (rule_met f level u rank cost now, weight_is (is_fresh u.fresh) (now - u.at_ms)) refl

pub ruled_is : (s : State) (u : Unit) (cost : List Float) (now : ℕ) → page.ruled s u cost now ≡ judging.ruled s.head s.rows u cost now
unfolding page.ruled page.ranked judging.ruled judging.rank_at
ruled_is s u cost now =
    let h = s.head in
    let e = entering.entry s.rows h.tracked h.unit_room u now in
    let t = (entered s e).state in
    let used = entering.used_at e.rows h.overflow e.place.at in
    rw (entry-is s u now, used_is t e.place.at, rule_is h.flow h.level used (judging.rank_at (hash_of u) e.place.at h.unit_room) cost now) refl

-- ---- the count
abbrev pub tallied : State → counting.Tally → State
tallied s t = record { head = t.head; rows = with_tags s.rows t.tags; hist = s.hist; counted = t.counted }

abbrev pub tally_of : State → counting.Tally
tally_of s = counting.tally s.head s.rows.tags s.counted

pub counted_is : (s : State) (name : Name) (cause receptions : ℕ) → page.counted s name cause receptions ≡ tallied s (counting.tallied (tally_of s) name cause receptions)
unfolding page.counted counting.tallied counts.pruned counts.pruned_tags counts.keep_from
counted_is s name cause receptions = refl

pub told_is : (s : State) (name : Name) (v : Verdict) (cost : List ℕ) → cond (is_admitted v) s (page.counted s name (counting.cause_of v) (get_or cost 0 0)) ≡ tallied s (counting.count_verdict (tally_of s) name v cost)
unfolding counting.count_verdict
told_is s name v cost = rw (counted_is s name (counting.cause_of v) (get_or cost 0 0)) (go (is_admitted v) (tally_of s) _)
  where
    go : (a : Bool) (x y : counting.Tally) → cond a (tallied s x) (tallied s y) ≡ tallied s (cond a x y)
    go true x y = refl
    go false x y = refl

-- ---- the hand-back
abbrev pub kept : State → cutting.KeptBy → State
kept s k = with_rows (with_head s k.head) k.rows

pub handed_is : (s : State) (u : Unit) (cost : List Float) → page.handed_back s u cost ≡ kept s (cutting.handed_back (cutting.kept_by s.head s.rows) u cost)
unfolding page.handed_back cutting.handed_back cutting.flowed_back cutting.lowered
handed_is s u cost =
    let h = s.head in
    let e = entering.entry s.rows h.tracked h.unit_room u h.flow.at_ms in
    let t = (entered s e).state in
    let used = entering.used_at e.rows h.overflow e.place.at in
    rw (entry-is s u h.flow.at_ms, used_is t e.place.at, back_is (with_flow t (cutting.flowed_back h.flow cost)) e.place.at (flow.handed_back used cost)) refl
