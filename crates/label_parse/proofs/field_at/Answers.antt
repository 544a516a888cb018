-- `label_parse::field_at` meets its contract.
use mathlib.Core.Path.{◌≡◌, refl, sym, ap, ◌∙◌}
use Prim.Native.Nat.{◌+◌, ◌-◌, ◌≤◌}
use native.Mathlib.Nat.{pow-zero}
use native.Mathlib.Omega.{arith}
use lib.ListN.{get_or}
use Rattle.label_parse.specs.Parse.{digit}
use Rattle.label_parse.proofs.Fields.{field_stop, field_next, field_done, grown_next, grown_within, raised}
use Rattle.label_parse.proofs.field_at.Goals as goal

pub loop-at-init : goal.loop-at-init
loop-at-init c =
    let k : c.args.start + c.args.most - c.args.start ≡ c.args.most = omega arith in
    let z : c.args.start - c.args.start ≡ 0 = omega arith in
    record { same = rw k refl; within = rw z (omega (arith, pow-zero c.args.base)) }

pub returns-in_default-clause-value : goal.returns-in_default-clause-value
returns-in_default-clause-value c =
    let stop : c.args.base ≤ digit (get_or c.args.s.now c.loop-at.at 0) = rw c.byte_at.ensures at c.in_default.ensures in
    sym (field_stop c.args.base c.args.s.now (record { value = c.loop-at.value; at = c.loop-at.at }) _ stop) ∙ c.loop-at.invariant.same

pub returns-in_default-clause-at_bound : goal.returns-in_default-clause-at_bound
returns-in_default-clause-at_bound c =
    (omega arith, raised c.args.base (c.loop-at.at - c.args.start) c.args.most c.loop-at.value c.loop-at.invariant.within (omega arith) c.requires.base_nonzero)

pub overflow_mul-value : goal.overflow_mul-value
overflow_mul-value c =
    omega (arith, grown_within c.args.base (c.loop-at.at - c.args.start) c.args.most c.loop-at.invariant.within c.in-Some.ensures.1 (omega arith))

pub overflow_add-value : goal.overflow_add-value
overflow_add-value c =
    omega (arith, grown_within c.args.base (c.loop-at.at - c.args.start) c.args.most c.loop-at.invariant.within c.in-Some.ensures.1 (omega arith))

pub loop-at-preserved : goal.loop-at-preserved
loop-at-preserved c =
    let d : c.in-Some.d ≡ digit (get_or c.args.s.now c.loop-at.at 0) = c.in-Some.ensures.0 ∙ ap digit c.byte_at.ensures in
    record {
      same = sym (field_next c.args.base c.args.s.now c.loop-at.value c.loop-at.at (c.args.start + c.args.most) c.in-Some.d (omega arith) d c.in-Some.ensures.1) ∙ c.loop-at.invariant.same;
      within = grown_next c.args.base c.args.start c.loop-at.at (omega arith) c.loop-at.invariant.within c.in-Some.ensures.1;
    }

pub returns-clause-value : goal.returns-clause-value
returns-clause-value c =
    field_done c.args.base c.args.s.now c.loop-at.value c.loop-at.at (c.args.start + c.args.most) _ (omega arith) (omega arith) c.loop-at.invariant.same

pub returns-clause-at_bound : goal.returns-clause-at_bound
returns-clause-at_bound c =
    (omega arith, raised c.args.base (c.loop-at.at - c.args.start) c.args.most c.loop-at.value c.loop-at.invariant.within (omega arith) c.requires.base_nonzero)
