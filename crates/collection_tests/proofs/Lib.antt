-- CollectionTests.

-- What the proofs of these tests share.
mod Unscanned
