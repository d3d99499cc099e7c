use Rattle.httpd.proofs.Prelude.{◌≡◌, ℕ, List, [], ◌∷◌, length, take, sym, ap, refl, subst, arith, CanSupply, script_functions}
use Rattle.httpd.proofs.Prelude.{CompactRepresent, pages_kept}
use Rattle.httpd.specs.declared.compact.CompactPages.TheVariants as compact
use Rattle.httpd.proofs.Compacting.{sent_enough, sent_fits, sent_found, sent_some, word_quiet}
use Rattle.httpd.proofs.Representing.{means, quiet_zero}
use Rattle.httpd.proofs.compact.CompactPages.fill_from.Goals as goal

pub fill_reply-requires-clause-found : goal.fill_reply-requires-clause-found
fill_reply-requires-clause-found g c = sent_found (script_functions g.R.Function.Calls.calling g.R.CallRecord.output) g.R.CallRecord.text
    c.args.site.now c.args.self.now c.in-Replying.polls c.in-Replying.found c.in-Replying.thread c.in-Replying.capture c.in-Replying.is
    (sent_some (script_functions g.R.Function.Calls.calling g.R.CallRecord.output) g.R.CallRecord.text c.args.site.now c.args.self.now
    c.in-Replying.polls c.in-Replying.found c.in-Replying.thread c.in-Replying.capture c.in-Replying.is (length c.args.out.now) c.requires)

pub fill_reply-requires-clause-fits : goal.fill_reply-requires-clause-fits
fill_reply-requires-clause-fits g c = sent_fits (script_functions g.R.Function.Calls.calling g.R.CallRecord.output) g.R.CallRecord.text
    c.args.site.now c.args.self.now c.in-Replying.polls c.in-Replying.found c.in-Replying.thread c.in-Replying.capture c.in-Replying.is
    (sent_some (script_functions g.R.Function.Calls.calling g.R.CallRecord.output) g.R.CallRecord.text c.args.site.now c.args.self.now
    c.in-Replying.polls c.in-Replying.found c.in-Replying.thread c.in-Replying.capture c.in-Replying.is (length c.args.out.now) c.requires)

pub fill_reply-requires-clause-enough : goal.fill_reply-requires-clause-enough
fill_reply-requires-clause-enough g c = sent_enough (script_functions g.R.Function.Calls.calling g.R.CallRecord.output) g.R.CallRecord.text
    c.args.site.now c.args.self.now c.in-Replying.polls c.in-Replying.found c.in-Replying.thread c.in-Replying.capture c.in-Replying.is
    (length c.args.out.now) c.requires

none_taken : (n : ℕ) (out text : List ℕ) → n ≡ 0 → n ≡ length out → out ≡ take n text
none_taken n [] text e f = ap (λ k. take k text) (sym e)
none_taken n (x ∷ xs) text e f = absurd (omega (arith, e, f))

pub returns-in-Receiving : goal.returns-in-Receiving
returns-in-Receiving g c = λ p s.
    none_taken (length c.args.out.now) c.args.out.now _ (quiet_zero (script_functions g.R.Function.Calls.calling g.R.CallRecord.output)
    (λ made. made) (pages_kept g.R.CallRecord.text (compact.Receiving c.in-Receiving.polls c.in-Receiving.target c.in-Receiving.line))
    c.args.site.now (length c.args.out.now) (word_quiet c.in-Receiving.target)
    (subst (λ v. CanSupply (means (script_functions g.R.Function.Calls.calling g.R.CallRecord.output))
    (CompactRepresent (script_functions g.R.Function.Calls.calling g.R.CallRecord.output) g.R.CallRecord.text) v c.args.site.now
    (length c.args.out.now)) c.in-Receiving.is c.requires)) refl

pub returns-in-Refused : goal.returns-in-Refused
returns-in-Refused g c = λ p s.
    none_taken (length c.args.out.now) c.args.out.now _ (quiet_zero (script_functions g.R.Function.Calls.calling g.R.CallRecord.output)
    (λ made. made) (pages_kept g.R.CallRecord.text (compact.Refused c.in-Refused.polls)) c.args.site.now (length c.args.out.now) (λ found e. cc)
    (subst (λ v. CanSupply (means (script_functions g.R.Function.Calls.calling g.R.CallRecord.output))
    (CompactRepresent (script_functions g.R.Function.Calls.calling g.R.CallRecord.output) g.R.CallRecord.text) v c.args.site.now
    (length c.args.out.now)) c.in-Refused.is c.requires)) refl
