use Rattle.std.specs.Prelude.{⊤}
use Rattle.std.proofs.Common.{◌≡◌, ℕ, List, refl, sym, ap, ◌∙◌, Ok, Err, Result, arith, rules}
use Rattle.head.specs.declared.Refusal.{Refusal}
use Rattle.head.specs.declared.Shedder.{Shedder}
use Rattle.head.specs.Answers.{answer_number}
use Rattle.head.specs.Questions.{cut_asked}
use Rattle.head.proofs.Numbers.{refused_is, answered_none}
use Rattle.sender.specs.declared.Unit.{Unit}
use Rattle.sender.specs.Sender.{name_of}
use Rattle.store.specs.declared.lent.Sizes.{Sizes}
use Rattle.store.specs.Held.{lent_rows}
use Rattle.cut.specs.Cutting.{cut, cut_ends, kept_by, handed_back}
use Rattle.head.proofs.Bounds.{lt_by, sum_within}
use Rattle.head.proofs.Asked.{cut_ready, sized_of}
use Rattle.parts.specs.Held.{held}
use Rattle.store.specs.Store.{with_tags}
use Rattle.cut.proofs.Noting.{cut_is}
use Rattle.cut.proofs.cut.Goals as goal

-- the number of what the questions answer, by the sizes of the lent rows
asked_by : (h : Shedder) (os cost : List ℕ) (a : Result ⊤ Refusal) (s t : Sizes) → s ≡ t → answer_number a ≡ cut_asked h s os cost
    → answer_number a ≡ cut_asked h t os cost
asked_by h os cost a s t e q = q ∙ ap (λ (s : Sizes). cut_asked h s os cost) e

none_asked : (h : Shedder) (os cost : List ℕ) (a : Result ⊤ Refusal) (s t : Sizes) → s ≡ t → (x : ⊤) → a ≡ Ok x
    → answer_number a ≡ cut_asked h s os cost → cut_asked h t os cost ≡ 0
none_asked h os cost a s t e x is q = answered_none a x _ is (asked_by h os cost a s t e q)

pub returns-in-Err-clause-same_but_nan_bits : goal.returns-in-Err-clause-same_but_nan_bits
unfolding cut
returns-in-Err-clause-same_but_nan_bits c =
    refused_is (λ (r : Refusal). cut_ends (Err r) c.args.head (lent_rows c.args.lent.now) c.args.lent.now.counted.now)
    _ c.cut_asked.result c.in-Err.refusal _ c.in-Err.is (asked_by c.args.head c.args.lent.now.offsets.now c.args.cost _ _ _ c.sizes.ensures c.cut_asked.ensures)

pub returns-in-Err-clause-answer_value : goal.returns-in-Err-clause-answer_value
unfolding answer_number
returns-in-Err-clause-answer_value c = ap answer_number (sym c.in-Err.is) ∙ asked_by c.args.head c.args.lent.now.offsets.now c.args.cost _ _ _ c.sizes.ensures c.cut_asked.ensures

pub handed_back-h-requires : goal.handed_back-h-requires
handed_back-h-requires c = let w = cut_ready c.args.head _ c.args.lent.now.offsets.now c.args.cost (none_asked c.args.head c.args.lent.now.offsets.now c.args.cost _ _ _ c.sizes.ensures _ c.in_default.is c.cut_asked.ensures) in record {
  sizes = sized_of c.args.head (lent_rows c.args.lent.now) c.args.lent.now.counted.now w;
  room = w.units_room;
  tracked_bound = w.tracked_held;
  whole = w.parts;
}

pub noted-requires : goal.noted-requires
noted-requires c = let w = cut_ready c.args.head _ c.args.lent.now.offsets.now c.args.cost (none_asked c.args.head c.args.lent.now.offsets.now c.args.cost _ _ _ c.sizes.ensures _ c.in_default.is c.cut_asked.ensures) in record {
  counted_in_bounds = (let t : c.lent-then-hands_back-4-1.given.0 ≡ c.handed_back-h.new.parts.tags.now = search rules in rw t (sum_within c.handed_back-h.ensures.unit_room_value c.handed_back-h.ensures.counted_value w.counted_held w.tags_room c.handed_back-h.ensures.slices.tags_length));
  counted_in_bounds_2 = lt_by c.handed_back-h.ensures.counted_value w.counted_held;
}

pub noted-requires-2 : goal.noted-requires-2
noted-requires-2 c = let w = cut_ready c.args.head _ c.args.lent.now.offsets.now c.args.cost (none_asked c.args.head c.args.lent.now.offsets.now c.args.cost _ _ _ c.sizes.ensures _ c.in_default.is c.cut_asked.ensures) in record {
  counted_in_bounds = sum_within refl refl w.counted_held w.tags_room refl;
  counted_in_bounds_2 = w.counted_held;
}

pub returns-then-hands_back-clause-same_but_nan_bits : goal.returns-then-hands_back-clause-same_but_nan_bits
unfolding cut
returns-then-hands_back-clause-same_but_nan_bits c =
    let t : c.lent-then-hands_back-4-1.given.0 ≡ c.handed_back-h.new.parts.tags.now = search rules in
    let s : c.lent-then-hands_back-3-1.given.0 ≡ c.handed_back-h.new.parts.slots.now = search rules in
    let f : c.lent-then-hands_back-2-1.given.0 ≡ c.handed_back-h.new.parts.free.now = search rules in
    let u : c.lent-then-hands_back-1.given.0 ≡ c.handed_back-h.new.parts.units.now = search rules in
    let v : c.lent-1.given.0 ≡ c.handed_back-h.new.parts.uses.now = search rules in
    let e : lent_rows c.noted.new.lent ≡ with_tags (held c.handed_back-h.new.parts) c.noted.new.lent.tags.now = rw (s, f, u, v) at c.noted.ensures.rows_after in
    simp ((none_asked c.args.head c.args.lent.now.offsets.now c.args.cost _ _ _ c.sizes.ensures _ c.in_default.is c.cut_asked.ensures), sym c.hands_back.ensures, c.if-hands_back.true, e)
    (cut_is _ _ c.args.unit c.args.cause c.args.cost c.handed_back-h.result _ c.of-named.result.name c.noted.result _ _ (c.handed_back-h.ensures.rows_after ∙ ap (λ (u : Unit). handed_back (kept_by c.args.head (lent_rows c.args.lent.now)) u c.numbers.result) c.of-named.ensures ∙ ap (handed_back _ c.args.unit) c.numbers.ensures) (c.of-named.result.name_is ∙ ap name_of c.of-named.ensures) (rw t at c.noted.ensures.counted_after))

pub returns-then-hands_back-clause-answer_value : goal.returns-then-hands_back-clause-answer_value
returns-then-hands_back-clause-answer_value c = c.noted.ensures.answer_value ∙ sym (none_asked c.args.head c.args.lent.now.offsets.now c.args.cost _ _ _ c.sizes.ensures _ c.in_default.is c.cut_asked.ensures)

pub returns-clause-same_but_nan_bits : goal.returns-clause-same_but_nan_bits
unfolding cut
returns-clause-same_but_nan_bits c =
    simp ((none_asked c.args.head c.args.lent.now.offsets.now c.args.cost _ _ _ c.sizes.ensures _ c.in_default.is c.cut_asked.ensures), sym c.hands_back.ensures, c.if-hands_back.false, c.noted-2.ensures.rows_after)
    (cut_is _ _ c.args.unit c.args.cause c.args.cost c.args.head _ c.of-named.result.name c.noted-2.result _ _ refl (c.of-named.result.name_is ∙ ap name_of c.of-named.ensures) c.noted-2.ensures.counted_after)

pub returns-clause-answer_value : goal.returns-clause-answer_value
returns-clause-answer_value c = c.noted-2.ensures.answer_value ∙ sym (none_asked c.args.head c.args.lent.now.offsets.now c.args.cost _ _ _ c.sizes.ensures _ c.in_default.is c.cut_asked.ensures)
