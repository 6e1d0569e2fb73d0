use Rattle.goblin_text.proofs.Common.{◌≡◌, ◌∙◌, ◌++◌, ◌∷◌, [], arith, subst, Appends-trans, common_steps, Appends}
use Rattle.goblin_text.proofs.Common.{encode_utf8_all, printed, encodes-append, ℕ, nat_tests, printable, encode}
use Rattle.goblin_text.proofs.lines.put_replaced.Goals as goal

-- the bytes of a character as it prints
encode-printable : (c : ℕ) → encode (printable c) ≡ printed (encode c)
unfolding encode
encode-printable c = grind (arith, nat_tests)

pub loop-c-preserved : goal.loop-c-preserved
loop-c-preserved g c =
    let before = printed (encode_utf8_all c.loop-c.yielded) in
    let is : before ++ c.encode_utf8.result.now ≡ printed (encode_utf8_all (c.loop-c.yielded ++ c.in-Some.c ∷ [])) =
    grind (arith, common_steps, encodes-append, encode-printable) in
    record {
      appends = subst (Appends _ _) is (Appends-trans _ _ _ _ _ c.loop-c.invariant.appends c.in_ok-put.ensures.put.0);
      heeded = grind (arith, common_steps);
      stopped = λ known. c.in_ok-put.ensures.put.2 (c.loop-c.invariant.heeded ∙ known)
          ∙ c.loop-c.invariant.stopped known;
      same_writer = grind (arith, common_steps);
    }
