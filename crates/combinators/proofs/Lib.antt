-- Lemmas of the nodes.
mod NewNodes
