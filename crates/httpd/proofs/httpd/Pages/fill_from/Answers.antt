use Rattle.httpd.proofs.Prelude.{◌≡◌, ℕ, List, [], ◌∷◌, length, take, sym, ap, arith, script_functions}
use Rattle.httpd.specs.declared.stage.Stage.TheVariants as stage
use Rattle.httpd.proofs.Representing.{can_supply, quiet_zero, reply_fits, reply_found, some_part}
use Rattle.httpd.proofs.httpd.Pages.fill_from.Goals as goal

pub fill_reply-requires-clause-found : goal.fill_reply-requires-clause-found
fill_reply-requires-clause-found g c =
    reply_found (script_functions g.R.Function.Calls.calling g.R.CallRecord.output) g.R.CallRecord.text c.args.self.now c.args.site.now
    c.in-Reply.found c.in-Reply.is (some_part (script_functions g.R.Function.Calls.calling g.R.CallRecord.output) g.R.CallRecord.text
    c.args.self.now c.args.site.now (length c.args.out.now) c.requires)

pub fill_reply-requires-clause-fits : goal.fill_reply-requires-clause-fits
fill_reply-requires-clause-fits g c =
    reply_fits (script_functions g.R.Function.Calls.calling g.R.CallRecord.output) g.R.CallRecord.text c.args.self.now c.args.site.now
    c.in-Reply.found c.in-Reply.is (some_part (script_functions g.R.Function.Calls.calling g.R.CallRecord.output) g.R.CallRecord.text
    c.args.self.now c.args.site.now (length c.args.out.now) c.requires)

pub fill_reply-requires-clause-enough : goal.fill_reply-requires-clause-enough
fill_reply-requires-clause-enough g c =
    can_supply (script_functions g.R.Function.Calls.calling g.R.CallRecord.output) g.R.CallRecord.text c.args.self.now c.args.site.now
    (length c.args.out.now) (stage.Reply c.in-Reply.found) c.in-Reply.is c.requires

none_taken : (n : ℕ) (out text : List ℕ) → n ≡ 0 → n ≡ length out → out ≡ take n text
none_taken n [] text e f = ap (λ k. take k text) (sym e)
none_taken n (x ∷ xs) text e f = absurd (omega (arith, e, f))

pub returns-in_default : goal.returns-in_default
returns-in_default g c = λ p s.
    none_taken (length c.args.out.now) c.args.out.now _ (quiet_zero (script_functions g.R.Function.Calls.calling g.R.CallRecord.output)
    g.R.CallRecord.text c.args.self.now c.args.site.now (length c.args.out.now) c.in_default.not-Reply c.requires) Rattle.std.proofs.Common.refl
