-- The promises that hold of a world that acts reach from the initial one.
use Rattle.link_replay.proofs.Prelude.{All, ◌≡◌, ℕ, Bool, true, Some, inl, slice_get, IsByte, SiteContent, IsLoaded, files_of, pages_of}
use Rattle.link_replay.proofs.Prelude.{web_spec, keeps_page_laws, made_of_bytes, World, Side, is_clean, HasBytes, IsReached, IsRepeatOf}
use Rattle.link_replay.proofs.Prelude.{IsServed, MarksRepeats, RepeatsSameBytes, prefix_and_whole, again_exactly, same_bytes, IsAt}
use Rattle.link_replay.proofs.Prelude.{KeepsPromises}
use Rattle.link_world.proofs.Ticks.{tick}

-- the pages of a site are bytes
pub has_bytes : (site : SiteContent) → All IsByte site.image → HasBytes (pages_of (files_of site))
has_bytes site bytes delivered captures are all = made_of_bytes site bytes delivered captures all

module _ (site : SiteContent) (loaded : IsLoaded site) (bytes : All IsByte site.image) (served : ℕ → Bool) (w : World) where
  -- what every law of reached worlds asks for; no law speaks of the mark
  reached : IsAt (web_spec (files_of site)) served w → IsReached (web_spec (files_of site)) (pages_of (files_of site)) (record w { mark = 0 })
  reached h = record {
    served = served;
    start = h.start;
    schedule = h.schedule;
    are_acts = h.are_acts;
    bytes = inl (has_bytes site bytes);
    accepted = h.accepted;
  }

  received : IsAt (web_spec (files_of site)) served w → (k : ℕ) (side : Side) → slice_get w.sides k ≡ Some side → is_clean side ≡ true
      → IsServed (pages_of (files_of site)) w side
  received h k side there clean =
      let is : IsServed (pages_of (files_of site)) (record w { mark = 0 }) side =
      prefix_and_whole (web_spec (files_of site)) (pages_of (files_of site)) (keeps_page_laws site loaded) (record w { mark = 0 })
      (reached h) k side there clean in
      record { prefix = is.prefix; all = is.all; whole = is.whole }

  repeated : IsAt (web_spec (files_of site)) served w → RepeatsSameBytes w
  repeated h k side there i e id s sent who content again =
      let was : (j : ℕ) × IsRepeatOf (record w { mark = 0 }) e s i j =
      same_bytes (web_spec (files_of site)) (pages_of (files_of site)) (keeps_page_laws site loaded) (record w { mark = 0 }) (reached h) k
      side there i e id s sent who content again in (
        was.0,
        record {
          earlier = was.1.earlier;
          sent = was.1.sent;
          there = was.1.there;
          who = was.1.who;
          epoch = was.1.epoch;
          id = was.1.id;
          segment = was.1.segment;
          content = was.1.content;
          placed = was.1.placed;
          seq = was.1.seq;
          alike = was.1.alike;
        },
      )

  marks : IsAt (web_spec (files_of site)) served w → MarksRepeats w
  marks h k side there = again_exactly (web_spec (files_of site)) (pages_of (files_of site)) (keeps_page_laws site loaded)
      (record w { mark = 0 }) (reached h) k side there

  pub keeps_promises : IsAt (web_spec (files_of site)) served w → KeepsPromises (files_of site) w
  keeps_promises h = record {
    pages = λ k side there clean. received h k side there clean;
    same_bytes = repeated h;
    marked = marks h;
    tick = tick;
  }
