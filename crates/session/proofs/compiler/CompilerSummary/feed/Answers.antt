use Rattle.std.proofs.Common.{◌≡◌, ℕ, ◌++◌, length, take, ap, ◌∙◌, rules}
use Rattle.session.proofs.Whole.{listing_kept}
use Rattle.session.proofs.compiler.CompilerSummary.feed.Goals as goal
use Rattle.session.specs.Steps.Sizes.{text_held}

pub returns : goal.returns
returns c = λ rest.
    let e = c.args.self.now in
    let chunk = c.args.chunk.now in
    let long : length e.text ≡ text_held = search rules in
    listing_kept (take e.size e.text) chunk _ rest (c.keep-self.ensures.value ∙ ap (λ (n : ℕ). take n (take e.size e.text ++ chunk)) long)
