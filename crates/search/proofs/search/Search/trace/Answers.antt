use Rattle.std.proofs.Common.{◌≡◌, ℕ, Some, None, Option, ◌+◌, ◌<◌, true, ltb, [], ◌∷◌, ◌++◌, length, sym, ap, ◌∙◌, subst, arith, rules}
use Rattle.route.specs.Certificate.{leg_end}
use Rattle.search.specs.declared.labels.Label.{Label}
use Rattle.search.specs.Lines.{label_of, hops_in, hops_of, first_of}
use Rattle.search.specs.Stages.{network_of}
use Rattle.search.proofs.Follow.{end_below, follow_step}
use Rattle.search_types.specs.Legs.{legs_of}
use Rattle.snapshot.specs.Sounds.{snapshot_sound}
use Rattle.std.proofs.lemmas.List.{length_push}
use Rattle.std.proofs.lemmas.Bool.{lt-ltb, cond-true}
use Rattle.search.proofs.search.Search.trace.Goals as goal

-- the number of legs that is read, which is the label's where there is one
abbrev read : Option Label → ℕ
read None = 0
read (Some x) = x.hops

below : (o : Option Label) (i : ℕ) → i < read o → i < hops_in o
below None i h = omega arith
below (Some x) i h = h

pub loop-i-preserved : goal.loop-i-preserved
loop-i-preserved g c =
    let m = network_of c.args.self.now in
    let ls = c.args.labels.now in
    let is = legs_of c.loop-i.route in
    let number = c.map_or-number.result in
    let told : c.map_or-i-end.result ≡ read (label_of ls c.args.start) = search rules in
    let hops : c.loop-i._i < hops_of ls c.args.start = below (label_of ls c.args.start) c.loop-i._i (omega (arith, told)) in
    let same : number ≡ first_of ls c.loop-i.at = search rules in
    let room : ltb (length is) 63 ≡ true = lt-ltb (length is) 63 (omega (arith, c.loop-i.invariant.1, hops, c.requires.labelled)) in
    let more : legs_of c.push.new.self ≡ is ++ number ∷ [] = c.push.ensures.legs ∙ cond-true (ltb (length is) 63) (is ++ number ∷ []) is room in
    let low : c.end_of-at.result < 64 = subst (λ x. x < 64) (sym c.end_of-at.ensures) (end_below m (snapshot_sound c.args.self.now.network.now) number) in (
      low,
      ap length more ∙ length_push is number ∙ ap (λ n. n + 1) c.loop-i.invariant.1,
      follow_step m (first_of ls) is _ _ (hops_of ls c.args.start) c.loop-i._i c.loop-i.at c.end_of-at.result hops c.loop-i.invariant.2
          (more ∙ ap (λ x. is ++ x ∷ []) same) (c.end_of-at.ensures ∙ ap (λ x. leg_end (m.at x)) same),
    )
