use Rattle.std.proofs.Common.{◌≡◌, Some, length, sym, ap, ◌∙◌, arith}
use Rattle.std.proofs.lemmas.Bool.{lt-ltb, le-ltb}
use Rattle.lux_lines.specs.Tokens.{tokens, token_at}
use Rattle.lux_lines.specs.TokenPieces.{token_piece}
use Rattle.lux_lines.proofs.TokenSteps.{token_step, no_token, still_at}
use Rattle.lux_lines.proofs.tokens.Tokens.next.Goals as goal

pub invariant_of-self : goal.invariant_of-self
invariant_of-self c =
    let s = c.self.inside in
    let past = c.past_separators-at.ensures.place s.first_line c.self.invariant.at_place in
    still_at s.first_line s.text.now s.at s.number c.past_separators-at.result.0 c.past_separators-at.result.1 s.read c.self.invariant c.past_separators-at.ensures.forth past.0 past.1

pub returns-then-at-self-clause-token : goal.returns-then-at-self-clause-token
returns-then-at-self-clause-token c =
    let s = c.self.inside in
    let past = c.past_separators-at.ensures.place s.first_line c.self.invariant.at_place in
    let none = no_token s.first_line s.text.now s.at s.number c.past_separators-at.result.0 s.read c.self.invariant past.1 c.if-at-self.true in
    rw (← c.self.view_is) (sym none.0)

pub returns-then-at-self-clause-there : goal.returns-then-at-self-clause-there
returns-then-at-self-clause-there c =
    let s = c.self.inside in
    let past = c.past_separators-at.ensures.place s.first_line c.self.invariant.at_place in
    let none = no_token s.first_line s.text.now s.at s.number c.past_separators-at.result.0 s.read c.self.invariant past.1 c.if-at-self.true in
    rw (← c.self.view_is) (sym (le-ltb s.read (length (tokens s.first_line s.text.now)) (omega arith)))

pub returns-then-at-self-clause-all : goal.returns-then-at-self-clause-all
returns-then-at-self-clause-all c =
    let s = c.self.inside in
    let past = c.past_separators-at.ensures.place s.first_line c.self.invariant.at_place in
    let none = no_token s.first_line s.text.now s.at s.number c.past_separators-at.result.0 s.read c.self.invariant past.1 c.if-at-self.true in
    rw (← c.self.view_is) none.1

pub invariant_of-self-2 : goal.invariant_of-self-2
invariant_of-self-2 c =
    let s = c.self.inside in
    let past = c.past_separators-at.ensures.place s.first_line c.self.invariant.at_place in
    let step = token_step s.first_line s.text.now s.at s.number c.past_separators-at.result.0 c.past_separators-at.result.1 s.read (length c.front-text.result.now) c.self.invariant
    c.past_separators-at.ensures.forth past.0 past.1 c.if-at-self.false (c.past_separators-at.ensures.stops c.if-at-self.false) c.front-text.ensures.len in
    step.after

pub returns-clause-token : goal.returns-clause-token
unfolding token_at
returns-clause-token c =
    let s = c.self.inside in
    let past = c.past_separators-at.ensures.place s.first_line c.self.invariant.at_place in
    let p = c.past_separators-at.result.0 in
    let step = token_step s.first_line s.text.now s.at s.number c.past_separators-at.result.0 c.past_separators-at.result.1 s.read (length c.front-text.result.now) c.self.invariant
    c.past_separators-at.ensures.forth past.0 past.1 c.if-at-self.false (c.past_separators-at.ensures.stops c.if-at-self.false) c.front-text.ensures.len in
    let here : token_at s.first_line s.text.now p ≡ token_piece record { number = c.past_separators-at.result.1; start = p; text = c.front-text.result } = (λ k. record { number = sym past.0.counted k; start = p; text = sym c.front-text.ensures.value k }) in
    rw (← c.self.view_is) (sym (step.token ∙ ap Some here))

pub returns-clause-there : goal.returns-clause-there
returns-clause-there c =
    let s = c.self.inside in
    let past = c.past_separators-at.ensures.place s.first_line c.self.invariant.at_place in
    let step = token_step s.first_line s.text.now s.at s.number c.past_separators-at.result.0 c.past_separators-at.result.1 s.read (length c.front-text.result.now) c.self.invariant
    c.past_separators-at.ensures.forth past.0 past.1 c.if-at-self.false (c.past_separators-at.ensures.stops c.if-at-self.false) c.front-text.ensures.len in
    rw (← c.self.view_is) (sym (lt-ltb s.read (length (tokens s.first_line s.text.now)) step.there))
