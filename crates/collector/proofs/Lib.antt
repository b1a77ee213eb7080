-- Collections by threads.
mod ByThreads
