-- A judgement on a record, from its parts: the code's results, each tied to its definition, make up the definition. Assumes nothing.
use mathlib.Core.Path.{◌≡◌, ap, ◌∙◌}
use Prim.Native.Nat.{ℕ, ◌-◌}
use mathlib.Core.List.{List}
use lib.Ieee.{Float}
use Rattle.flow.specs.Flow as flow
use Rattle.flow.specs.declared.Use.{Use}
use Rattle.verdict.specs.declared.Outcome.{Outcome}
use Rattle.verdict.specs.declared.Rule.{Rule}
use Rattle.sender.specs.declared.Unit.{Unit}
use Rattle.sender.specs.Sender.{hash_of}
use Rattle.store.specs.Store.{Rows}
use Rattle.head.specs.declared.Flow.{Flow}
use Rattle.head.specs.declared.Shedder.{Shedder}
use Rattle.store_entry.specs.Entering.{Place, Entered, entered, entry, used_at, Back, back, put_back}
use Rattle.head.specs.Headed.{headed}
use Rattle.judge.specs.Judging.{rank_at, outcome, outcome_at, rule, rule_at, flowed, Through, passing, judged_at, judged, ruled}

-- what a judgement makes of the use and the rank at a place, from those that the code found
at_place : {A : Type 0} (F : Use → Float → A) (h : Shedder) (u : Unit) (k : ℕ) (p : Place) (m : Rows) (x : Use) (r : Float) (o : A)
    → k ≡ hash_of u
    → x ≡ used_at m h.overflow p.at
    → r ≡ rank_at k p.at h.unit_room
    → o ≡ F x r
    → o ≡ F (used_at m h.overflow p.at) (rank_at (hash_of u) p.at h.unit_room)
at_place F h u k p m x r o eN eU eR eO =
    eO ∙ ap (λ (x : Use). F x r) eU
    ∙ ap (F (used_at m h.overflow p.at)) (eR ∙ ap (λ (k : ℕ). rank_at k p.at h.unit_room) eN)

pub judged_is : (h : Shedder) (m : Rows) (u : Unit) (k : ℕ) (cost : List Float) (now : ℕ)
    (p : Place) (m1 m2 : Rows) (x sh : Use) (r : Float) (o : Outcome) (f : Flow)
    → k ≡ hash_of u
    → entered p m1 ≡ entry m h.tracked h.unit_room u now
    → x ≡ used_at m1 h.overflow p.at
    → r ≡ rank_at k p.at h.unit_room
    → o ≡ outcome h.flow h.level x r cost now
    → back sh m2 ≡ put_back m1 h.overflow p.at o.used
    → f ≡ flowed h.flow o cost now
    → ◌≡◌ {A = Through} (record { verdict = o.verdict; head = headed h f sh p.tracked; rows = m2 }) (judged h m u cost now)
unfolding judged
judged_is h m u k cost now p m1 m2 x sh r o f eN eE eU eR eO eB eF =
    let E : Entered = entered p m1 in
    let eo : o ≡ outcome_at h u cost now E = at_place (λ x r. outcome h.flow h.level x r cost now) h u k p m1 x r o eN eU eR eO in
    ap (λ (f : Flow). record { verdict = o.verdict; head = headed h f sh p.tracked; rows = m2 }) eF
    ∙ ap (λ (b : Back). passing h now cost E o b) eB
    ∙ ap (λ (o : Outcome). passing h now cost E o (put_back m1 h.overflow p.at o.used)) eo
    ∙ ap (λ (e : Entered). judged_at h u cost now e) eE

-- its rule
pub rule_is : (h : Shedder) (m : Rows) (u : Unit) (k : ℕ) (cost : List Float) (now : ℕ)
    (p : Place) (m1 : Rows) (x : Use) (r : Float) (q : Rule)
    → k ≡ hash_of u
    → entered p m1 ≡ entry m h.tracked h.unit_room u now
    → x ≡ used_at m1 h.overflow p.at
    → r ≡ rank_at k p.at h.unit_room
    → q ≡ rule h.flow h.level x r cost now
    → q ≡ ruled h m u cost now
unfolding ruled
rule_is h m u k cost now p m1 x r q eN eE eU eR eQ =
    at_place (λ x r. rule h.flow h.level x r cost now) h u k p m1 x r q eN eU eR eQ ∙ ap (λ (e : Entered). rule_at h u cost now e) eE

-- what is made of the time passed and the fill, from those that the code computed
pub ruled_is : {A : Type 0} (F : ℕ → List Float → A) (f : Flow) (level : List Float) (now : ℕ) (o : A) (e : ℕ) (fill paid : List Float)
    → paid ≡ flow.numbers f.rate → fill ≡ flow.fills level paid → e ≡ now - f.at_ms
    → o ≡ F e fill
    → o ≡ F (now - f.at_ms) (flow.fills level (flow.numbers f.rate))
ruled_is F f level now o e fill paid eP eF eE eO = eO ∙ ap (λ (e : ℕ). F e fill) eE ∙ ap (F (now - f.at_ms)) (eF ∙ ap (flow.fills level) eP)
